-- A piece after some of its bytes.
use Rattle.std.specs.Prelude.{ℕ, zero, suc, ◌+◌, List}
use Rattle.tl_html_tokens.specs.Inner.Scans.{next_scan}
use Rattle.tl_html_tokens.specs.declared.front.Scan.{Scan}
use Rattle.tl_html_tokens.specs.declared.front.Scanned.{Scanned}
use Rattle.tl_html_tokens.specs.declared.front.Scanned.TheVariants.{On, Before}

abbrev pub unless_ended : (Scan → Scanned) → Scanned → Scanned
unless_ended next (On scan) = next scan
unless_ended next (Before kind mode) = Before kind mode

-- so many bytes further
abbrev pub scanned : ℕ → List ℕ → ℕ → Scan → Scanned
scanned zero page place scan = On scan
scanned (suc n) page place scan =
    unless_ended (λ next. scanned n page (place + 1) next) (next_scan scan page place)
