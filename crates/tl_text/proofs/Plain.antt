-- Runs of bytes that stand for themselves, up to the first one that doesn't.
use Rattle.std.proofs.Common.{◌≡◌, ℕ, zero, suc, ◌+◌, ◌-◌, ◌<◌, ◌≤◌, Bool, true, false, not, ◌==◌, List, [], ◌∷◌, ◌++◌, length, take, drop, take_all, Some, None, get_or, refl, ap, sym, ◌∙◌, arith, le_refl, append-nil, append_assoc}
use Rattle.std.specs.List.{list_all}
use Rattle.std.proofs.lemmas.Bool.{and_from, eqb-true}
use Rattle.std.proofs.lemmas.List.{at_drop_more, take-append-drop}
use Rattle.memchr.specs.Find.{IsFirstByte, is_byte}
use Rattle.tl_html_spec.specs.Unescaped.{or_itself, reference, unescaped}
use Rattle.tl_html_spec.proofs.Looked.{bytes-plain, passes}

fails_not : (t : Bool) → ¬ (t ≡ true) → t ≡ false
fails_not true never = absurd (never refl)
fails_not false never = refl

-- a test that the bytes before a place fail
abbrev FailsBefore : (ℕ → Bool) → List ℕ → ℕ → Type 0
FailsBefore test s k = (j : ℕ) → j < k → test (get_or s j 0) ≡ false

all_before : (test : ℕ → Bool) (s : List ℕ) (k : ℕ) → k ≤ length s → FailsBefore test s k → list_all (λ b. not (test b)) (take k s) ≡ true
all_before test s zero h fails = refl
all_before test [] (suc k) h fails = absurd (omega arith)
all_before test (b ∷ s) (suc k) h fails =
    and_from (not (test b)) (list_all (λ c. not (test c)) (take k s)) (ap not (fails 0 (omega arith))) (all_before test s k (omega arith) (λ j l. fails (suc j) (omega arith)))

-- all bytes fail a test that none of them passes
pub all_fail : (test : ℕ → Bool) (s : List ℕ) → IsFirstByte test s None → list_all (λ b. not (test b)) s ≡ true
all_fail test s none =
    sym (ap (list_all (λ b. not (test b))) (take_all (length s) s (le_refl (length s))))
    ∙ all_before test s (length s) (le_refl (length s)) (λ j l. fails_not (test (get_or s j 0)) (none j (omega arith) l))

-- references

amp_read : (v : Bool) (b : ℕ) (t : List ℕ) → (b == 38) ≡ true → unescaped v (b ∷ t) ≡ (or_itself (reference v t)).gives ++ unescaped v (drop (or_itself (reference v t)).takes t)
amp_read v b t e =
    ap (λ c. unescaped v (c ∷ t)) (eqb-true b 38 e)
    ∙ ap (λ x. (or_itself (reference v t)).gives ++ x) (passes v (or_itself (reference v t)).takes t)

pub reference_found : (v : Bool) (o s : List ℕ) (k : ℕ) → IsFirstByte (is_byte 38) s (Some k) →
    o ++ unescaped v s ≡ ((o ++ take k s) ++ (or_itself (reference v (drop (k + 1) s))).gives) ++ unescaped v (drop (or_itself (reference v (drop (k + 1) s))).takes (drop (k + 1) s))
reference_found v o s k found =
    let inside = found.0.high in
    let t : List ℕ = drop (k + 1) s in
    let gives : List ℕ = (or_itself (reference v t)).gives in
    let later : List ℕ = unescaped v (drop (or_itself (reference v t)).takes t) in
    ap (λ x. o ++ x) (ap (unescaped v) (sym (take-append-drop k s))
    ∙ bytes-plain v (take k s) (drop k s) (all_before (is_byte 38) s k (omega arith) (λ j l. fails_not (is_byte 38 (get_or s j 0)) (found.0.before j (omega arith) l)))
    ∙ ap (λ x. take k s ++ x) (at_drop_more (unescaped v) s k 0 inside ∙ amp_read v (get_or s k 0) t found.1))
    ∙ sym (append_assoc o (take k s) (gives ++ later))
    ∙ sym (append_assoc (o ++ take k s) gives later)

pub reference_none : (v : Bool) (s : List ℕ) → IsFirstByte (is_byte 38) s None → unescaped v s ≡ s
reference_none v s none =
    ap (unescaped v) (sym (append-nil s)) ∙ bytes-plain v s [] (all_fail (is_byte 38) s none) ∙ append-nil s
