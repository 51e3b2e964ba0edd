-- A page from the first byte of a piece on, byte by byte.
use Rattle.std.specs.Prelude.{ℕ, ◌+◌, ◌-◌, Bool, ◌&&◌, ◌==◌, List, drop, take, slice_index, if◌then◌else◌}
use Rattle.tl_html_spec.specs.Reader.{feed}
use Rattle.tl_html_tokens.specs.Inner.Machine.{first, turn}
use Rattle.tl_html_tokens.specs.Inner.Stages.{has_word}
use Rattle.tl_html_tokens.specs.declared.mode.Mode.{Mode}
use Rattle.tl_html_tokens.specs.declared.front.Scan.{Scan}
use Rattle.tl_html_tokens.specs.declared.front.Scanned.{Scanned}
use Rattle.tl_html_tokens.specs.declared.front.Scanned.TheVariants.{On, Before}
use Rattle.tl_html_tokens.specs.declared.stage.Turn.{Turn}
use Rattle.tl_html_tokens.specs.declared.stage.Turn.TheVariants.{Goes, Ends}

abbrev pub first_scan : List ℕ → ℕ → Mode → Scan
first_scan page start mode = record {
  stage = first mode (feed (slice_index page start));
  after_return = slice_index page start == 13;
  word = start + 1;
}

abbrev pub after_turn : Turn → Bool → ℕ → ℕ → Scanned
after_turn (Goes stage) after_return word place =
    On (record {
      stage = stage;
      after_return = after_return;
      word = if has_word stage then word else place + 1;
    })
after_turn (Ends kind mode) after_return word place = Before kind mode

-- a line feed after a carriage return is passed over
abbrev pub next_scan : Scan → List ℕ → ℕ → Scanned
next_scan scan page place =
    if scan.after_return && (slice_index page place == 10) then
    On (record {
      stage = scan.stage;
      after_return = slice_index page place == 13;
      word = place + 1;
    })
    else (let word = take (place - scan.word) (drop scan.word page) in
    let now = turn scan.stage word (feed (slice_index page place)) in
    after_turn now (slice_index page place == 13) scan.word place)
