-- Texts whose white space is collapsed, and that are written as they are.
use Rattle.std.proofs.Common.{Bool, List, [], ap, arith, false, get_or, inl, inr, length, not, refl, suc, sym, take, true, zero, ℕ, ◌&&◌, ◌+◌, ◌-◌, ◌<◌, ◌==◌, ◌||◌, ◌∙◌, ◌≡◌, ◌≤◌, ◌∷◌}
use Rattle.std.proofs.lemmas.Bool.{and_from, cases_eq, cases_lt, not_from_false, or_from, or_parts}
use Rattle.std.proofs.lemmas.List.{take_all}
use Rattle.std.proofs.lemmas.List.Sums.{position_or_len_is}
use Rattle.std.specs.List.{before_first, list_all, position_or_len}
use Rattle.tl_tree_extract.proofs.Singles.{single-part}
use Rattle.tl_tree_extract.specs.Flowing.{after_items, at_begin, is_break, is_white, text_items, written}
use Rattle.tl_tree_extract.specs.Inner.Runs.{AreSmooth, after_run, has_idle_space, is_rough, run_written}
use Rattle.tl_tree_extract.specs.Readable.{one_line}
use Rattle.tl_tree_extract.specs.declared.text.flow.Flow.{Flow}

pub one_more : (text : List ℕ) (start count : ℕ) (found : Bool) → (found ≡ false → AreSmooth text start (start + count)) → (found || is_rough (get_or text (start + count - 1) 32) (get_or text (start + count) 32)) ≡ false → AreSmooth text start (start + (count + 1))
one_more text start count found before none k low high =
    let parts = or_parts found (is_rough (get_or text (start + count - 1) 32) (get_or text (start + count) 32)) none in
    elim (cases_eq k (start + count)) [
      | inl same ↦ ap (λ n. is_rough (get_or text (n - 1) 32) (get_or text n 32)) same ∙ parts.1
      | inr other ↦ before parts.0 k low (omega arith)
    ]

pub joined : (text : List ℕ) (a b c d : ℕ) → AreSmooth text a b → AreSmooth text c d → c ≤ b → AreSmooth text a d
joined text a b c d p q meets k low high =
    elim (cases_lt k b) [
      | inl below ↦ p k low below
      | inr above ↦ q k (omega arith) high
    ]

-- each byte behind the first, with that before it
abbrev AllSmooth : List ℕ → Type 0
AllSmooth text = (k : ℕ) → k + 1 < length text → is_rough (get_or text k 32) (get_or text (suc k) 32) ≡ false

rough-parts : (before b : ℕ) → is_rough before b ≡ false → ((before == 32 && b == 32) ≡ false) × ((b == 10) ≡ false) × ((b == 9) ≡ false) × ((b == 13) ≡ false)
rough-parts before b h =
    let p = or_parts ((before == 32 && b == 32) || b == 10 || b == 9) (b == 13) h in
    let q = or_parts ((before == 32 && b == 32) || b == 10) (b == 9) p.0 in
    let r = or_parts (before == 32 && b == 32) (b == 10) q.0 in
    (r.0, r.1, q.1, p.1)

no-break : (before b : ℕ) → is_rough before b ≡ false → is_break b ≡ false
no-break before b h =
    let p = rough-parts before b h in
    or_from (b == 10 || b == 9) (b == 13) (or_from (b == 10) (b == 9) p.1 p.2) p.3

not-break : (b : ℕ) → is_break b ≡ false → not (is_break b) ≡ true
not-break b e = not_from_false (is_break b) e

no-breaks : (b : ℕ) (s : List ℕ) → is_break b ≡ false → AllSmooth (b ∷ s) → list_all (λ x. not (is_break x)) (b ∷ s) ≡ true
no-breaks b [] e h = and_from (not (is_break b)) true (not-break b e) refl
no-breaks b (c ∷ s) e h =
    and_from (not (is_break b)) (list_all (λ x. not (is_break x)) (c ∷ s)) (not-break b e)
    (no-breaks c s (no-break b c (h 0 (omega arith))) (λ k l. h (suc k) (omega arith)))

no-idle : (b : ℕ) (s : List ℕ) → (get_or (b ∷ s) (length s) 32 == 32) ≡ false → AllSmooth (b ∷ s) → has_idle_space (b ∷ s) ≡ false
no-idle b [] e h = e
no-idle b (c ∷ s) e h =
    or_from (b == 32 && c == 32) (has_idle_space (c ∷ s)) (rough-parts b c (h 0 (omega arith))).0
    (no-idle c s e (λ k l. h (suc k) (omega arith)))

shifted : (text : List ℕ) → AreSmooth text 1 (length text) → AllSmooth text
shifted text h k l =
    let back : suc k - 1 ≡ k = omega arith in
    ap (λ n. is_rough (get_or text n 32) (get_or text (suc k) 32)) (sym back) ∙ h (suc k) (omega arith) (omega arith)

white-parts : (b : ℕ) → is_white b ≡ false → is_break b ≡ false
white-parts b e = (or_parts (b == 32) (is_break b) e).1

pub smooth_text : (f : Flow) (s : List ℕ) → is_white (get_or s 0 32) ≡ false → (get_or s (length s - 1) 32 == 32) ≡ false → AreSmooth s 1 (length s) →
    (written f (text_items false s) ≡ run_written f s) × (after_items f (text_items false s) ≡ after_run f s)
smooth_text f [] w e h = (refl, refl)
smooth_text f (b ∷ s) w e h =
    let all : AllSmooth (b ∷ s) = shifted (b ∷ s) h in
    let last : suc (length s) - 1 ≡ length s = omega arith in
    let ended : (get_or (b ∷ s) (length s) 32 == 32) ≡ false = ap (λ n. get_or (b ∷ s) n 32 == 32) (sym last) ∙ e in
    single-part f (b ∷ s) (no-breaks b s (white-parts b w) all) w (no-idle b s ended all)

-- On a line of its own

no-feed : (s : List ℕ) → is_white (get_or s 0 32) ≡ false → AreSmooth s 1 (length s) → (k : ℕ) → k < length s → (get_or s k 32 == 10) ≡ false
no-feed s w h zero l =
    let b = get_or s 0 32 in
    (or_parts (b == 10) (b == 9) (or_parts (b == 10 || b == 9) (b == 13) (white-parts b w)).0).0
no-feed s w h (suc k) l =
    (rough-parts (get_or s (suc k - 1) 32) (get_or s (suc k) 32) (h (suc k) (omega arith) l)).1

at-begin : (s : List ℕ) → run_written at_begin s ≡ s
at-begin [] = refl
at-begin (b ∷ s) = refl

pub smooth_line : (s : List ℕ) → is_white (get_or s 0 32) ≡ false → (get_or s (length s - 1) 32 == 32) ≡ false → AreSmooth s 1 (length s) → one_line (before_first (λ b. b == 10) s) ≡ s
smooth_line s w e h =
    let whole : position_or_len (λ b. b == 10) s ≡ length s =
    position_or_len_is (λ b. b == 10) s (length s) 32 (omega arith) (no-feed s w h) (λ l. absurd (omega arith)) in
    ap (λ n. one_line (take n s)) whole
    ∙ ap one_line (take_all (length s) s (omega arith))
    ∙ (smooth_text at_begin s w e h).0
    ∙ at-begin s
