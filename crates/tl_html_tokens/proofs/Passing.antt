-- Bytes that leave a stage as it is are passed over at once.
use Rattle.std.proofs.Common.{◌≡◌, ◌≤◌, ◌<◌, ℕ, zero, suc, ◌+◌, Bool, true, false, not, ◌==◌, ◌&&◌, ◌||◌, List, length, take, drop, get_or, refl, ap, ap₂, sym, subst, ◌∙◌, true≢false, arith, if◌then◌else◌}
use Rattle.std.specs.List.{list_all}
use Rattle.std.proofs.lemmas.Bool.{and_parts, cond_both}
use Rattle.std.proofs.lemmas.List.{drop_more}
use Rattle.tl_html_spec.specs.HtmlTokenizer.{ends_name, is_white_space}
use Rattle.tl_html_spec.specs.Reader.{feed}
use Rattle.tl_html_tokens.specs.Inner.Machine as M
use Rattle.tl_html_tokens.specs.Inner.Quiet.{is_quiet, skip_quiet}
use Rattle.tl_html_tokens.specs.Inner.Scans as S
use Rattle.tl_html_tokens.specs.Inner.Stages.{has_word}
use Rattle.tl_html_tokens.specs.declared.front.Scan.{Scan}
use Rattle.tl_html_tokens.specs.declared.front.Scanned.TheVariants.{On}
use Rattle.tl_html_tokens.specs.declared.mode.Mode.{Mode}
use Rattle.tl_html_tokens.specs.declared.stage.Quote.TheVariants as quote
use Rattle.tl_html_tokens.specs.declared.stage.Stage.{Stage}
use Rattle.tl_html_tokens.specs.declared.stage.Tag.{Tag}
use Rattle.tl_html_tokens.specs.declared.stage.Stage.TheVariants as stage
use Rattle.tl_html_tokens.specs.declared.stage.Turn.TheVariants.{Goes}
use Rattle.tl_html_tokens.proofs.Places.{between}
use Rattle.tl_html_tokens.proofs.Reading.{Follows, IsScan, scan_next}

pub three : (x y z : Bool) → not (x || y || z) ≡ true → (x ≡ false) × (y ≡ false) × (z ≡ false)
three true y z h = absurd (true≢false (sym h))
three false true z h = absurd (true≢false (sym h))
three false false true h = absurd (true≢false (sym h))
three false false false h = (refl, refl, refl)

pub ends : (x y z : Bool) → (x || y || z) ≡ false → (x ≡ false) × (y ≡ false) × (z ≡ false)
ends true y z h = absurd (true≢false h)
ends false true z h = absurd (true≢false h)
ends false false true h = absurd (true≢false h)
ends false false false h = (refl, refl, refl)

record Stays (c : Stage) (w : List ℕ) (b : ℕ) : Type 0 where
  goes : M.turn c w (feed b) ≡ Goes c
  returns : (b == 13) ≡ false

pub feed_is : (b : ℕ) → (b == 13) ≡ false → feed b ≡ b
feed_is b h = rw h refl

stays_by : (c : Stage) (w : List ℕ) (b : ℕ) → (b == 13) ≡ false → M.turn c w b ≡ Goes c → Stays c w b
stays_by c w b r g = record { goes = ap (M.turn c w) (feed_is b r) ∙ g; returns = r }

name_goes : (is_end : Bool) (w : List ℕ) (b : ℕ) → ends_name b ≡ false → M.tag_name is_end w b ≡ Goes (stage.TagName is_end)
name_goes is_end w b h =
    let p = ends (is_white_space b) (b == 47) (b == 62) h in
    ap (λ (v : Bool). if v then Goes (stage.BeforeKey (M.named_tag is_end w)) else if b == 47 then Goes (stage.SelfClosing (M.named_tag is_end w)) else if b == 62 then M.tag_end (M.named_tag is_end w) else Goes (stage.TagName is_end)) p.0
    ∙ ap (λ (v : Bool). if v then Goes (stage.SelfClosing (M.named_tag is_end w)) else if b == 62 then M.tag_end (M.named_tag is_end w) else Goes (stage.TagName is_end)) p.1
    ∙ ap (λ (v : Bool). if v then M.tag_end (M.named_tag is_end w) else Goes (stage.TagName is_end)) p.2

pub key_goes : (tag : Tag) (b : ℕ) → ends_name b ≡ false → (b == 61) ≡ false → M.key tag b ≡ Goes (stage.Key tag)
key_goes tag b h e =
    ap (λ (v : Bool). if v then M.after_key tag b else if b == 61 then Goes (stage.BeforeValue tag) else Goes (stage.Key tag)) h
    ∙ ap (λ (v : Bool). if v then Goes (stage.BeforeValue tag) else Goes (stage.Key tag)) e

stays : (c : Stage) (w : List ℕ) (b : ℕ) → is_quiet c b ≡ true → Stays c w b
stays (stage.Value quote.Double tag) w b h =
    let p = three (b == 34) (b == 38) (b == 13) h in stays_by (stage.Value quote.Double tag) w b p.2 (rw (p.0, p.1) refl)
stays (stage.Value quote.Single tag) w b h =
    let p = three (b == 39) (b == 38) (b == 13) h in stays_by (stage.Value quote.Single tag) w b p.2 (rw (p.0, p.1) refl)
stays stage.Comment w b h =
    let p = three (b == 60) (b == 45) (b == 13) h in stays_by stage.Comment w b p.2 (rw (p.0, p.1) refl)
stays (stage.TagName is_end) w b h =
    let p = three (ends_name b) (b == 61) (b == 13) h in stays_by (stage.TagName is_end) w b p.2 (name_goes is_end w b p.0)
stays (stage.Key tag) w b h =
    let p = three (ends_name b) (b == 61) (b == 13) h in stays_by (stage.Key tag) w b p.2 (key_goes tag b p.0 p.1)
stays (stage.Value quote.Absent tag) w b h = absurd (true≢false (sym h))
stays _ w b h = absurd (true≢false (sym h))

abbrev quieted : Stage → ℕ → ℕ → Scan
quieted c word place = record { stage = c; after_return = false; word = if has_word c then word else place }

-- a word that stays where it is
kept_word : (v : Bool) (word near far : ℕ) → (if v then (if v then word else near) else far) ≡ (if v then word else far)
kept_word true word near far = refl
kept_word false word near far = refl

next_is : (page : List ℕ) (place : ℕ) (scan : Scan) → (scan.after_return ≡ true → has_word scan.stage ≡ false) → is_quiet scan.stage (get_or page place 0) ≡ true
    → S.next_scan scan page place ≡ On (quieted scan.stage scan.word (place + 1))
next_is page place scan returned h =
    let b : ℕ = get_or page place 0 in
    let s = stays scan.stage (between page scan.word place) b h in
    cond_both (scan.after_return && (b == 10)) _ _ (λ x. x ≡ On (quieted scan.stage scan.word (place + 1)))
    (λ e. ap₂ (λ (v u : Bool). On (record { stage = scan.stage; after_return = v; word = if u then scan.word else place + 1 })) s.returns (sym (returned (and_parts scan.after_return (b == 10) e).0)))
    (λ _. ap (λ t. S.after_turn t (b == 13) scan.word place) s.goes
    ∙ ap (λ (v : Bool). On (record { stage = scan.stage; after_return = v; word = if has_word scan.stage then scan.word else place + 1 })) s.returns)

one_on : (page : List ℕ) (start : ℕ) (m : Mode) (place : ℕ) (scan : Scan) → IsScan page start m place scan → place < length page →
    is_quiet scan.stage (get_or page place 0) ≡ true → IsScan page start m (place + 1) (quieted scan.stage scan.word (place + 1))
one_on page start m place scan h l q = subst (Follows page start m place) (next_is page place scan h.returned q) (scan_next page start m place scan h l)

-- so many bytes and one more
run_on : (page : List ℕ) (start : ℕ) (m : Mode) (place n : ℕ) (scan : Scan) → IsScan page start m place scan → place + suc n ≤ length page →
    list_all (is_quiet scan.stage) (take (suc n) (drop place page)) ≡ true → IsScan page start m (place + suc n) (quieted scan.stage scan.word (place + suc n))
run_on page start m place zero scan h l q =
    let inside : place < length page = omega arith in
    let one : place + suc zero ≡ place + 1 = omega arith in
    let p = and_parts (is_quiet scan.stage (get_or page place 0)) _ (sym (ap (λ s. list_all (is_quiet scan.stage) (take 1 s)) (drop_more page place 0 inside)) ∙ q) in
    subst (λ k. IsScan page start m k (quieted scan.stage scan.word k)) (sym one) (one_on page start m place scan h inside p.0)
run_on page start m place (suc n) scan h l q =
    let inside : place < length page = omega arith in
    let sum : place + 1 + suc n ≡ place + suc (suc n) = omega arith in
    let p = and_parts (is_quiet scan.stage (get_or page place 0)) _ (sym (ap (λ s. list_all (is_quiet scan.stage) (take (suc (suc n)) s)) (drop_more page place 0 inside)) ∙ q) in
    let more = run_on page start m (place + 1) n (quieted scan.stage scan.word (place + 1)) (one_on page start m place scan h inside p.0) (omega arith) p.1 in
    subst (λ k. IsScan page start m k (quieted scan.stage scan.word k)) sum
    (subst (λ k. IsScan page start m (place + 1 + suc n) (record { stage = scan.stage; after_return = false; word = k })) (kept_word (has_word scan.stage) scan.word (place + 1) (place + 1 + suc n)) more)

pub pass_on : (page : List ℕ) (start : ℕ) (m : Mode) (place n : ℕ) (scan : Scan) → IsScan page start m place scan → place + n ≤ length page →
    list_all (is_quiet scan.stage) (take n (drop place page)) ≡ true → IsScan page start m (place + n) (skip_quiet scan place n)
pass_on page start m place zero scan h l q = let z : place ≡ place + 0 = omega arith in subst (λ k. IsScan page start m k scan) z h
pass_on page start m place (suc n) scan h l q =
    let e : (suc n == 0) ≡ false = grind arith in
    subst (λ (v : Bool). IsScan page start m (place + suc n) (if v then scan else quieted scan.stage scan.word (place + suc n))) (sym e) (run_on page start m place n scan h l q)
