-- Runs of bytes up to the first one that is escaped.
use Rattle.std.proofs.Common.{Bool, List, None, Some, [], ap, ap₂, append-nil, append_assoc, arith, drop, false, get_or, if◌then◌else◌, le_refl, length, refl, sym, take, take_all, true, ◌&&◌, ◌++◌, ◌<◌, ◌==◌, ◌∙◌, ◌≡◌, ◌≤◌, ◌||◌, ◌∷◌, zero, suc, ℕ}
use Rattle.std.proofs.lemmas.List.{drop_all}
use Rattle.std.specs.Prelude.{codes, flat_map}
use Rattle.memchr.specs.Find.{IsFirstByte, is_byte2, is_byte3}
use Rattle.tl_html_print.specs.Serialized.{escape, escaped}

fails_not : (t : Bool) → ¬ (t ≡ true) → t ≡ false
fails_not true never = absurd (never refl)
fails_not false never = refl

-- a test that the bytes before a place fail
abbrev FailsBefore : (ℕ → Bool) → List ℕ → ℕ → Type 0
FailsBefore test s k = (j : ℕ) → j < k → test (get_or s j 0) ≡ false

-- Of texts without U+00A0

escape-plain : (b : ℕ) → is_byte3 38 60 62 b ≡ false → escape false b ≡ b ∷ []
escape-plain b e = here (b == 38) (b == 60) (b == 62) e
  where
    here : (x y z : Bool) → (x || y || z) ≡ false → (if x then codes "&amp;" else if y then codes "&lt;" else if z then codes "&gt;" else b ∷ []) ≡ b ∷ []
    here true y z h = cc
    here false true z h = cc
    here false false true h = cc
    here false false false h = refl

markup-plain : (s : List ℕ) (k : ℕ) → k ≤ length s → FailsBefore (is_byte3 38 60 62) s k → flat_map (escape false) s ≡ take k s ++ flat_map (escape false) (drop k s)
markup-plain s zero h fails = refl
markup-plain [] (suc k) h fails = absurd (omega arith)
markup-plain (b ∷ s) (suc k) h fails =
    ap₂ (λ x y. x ++ y) (escape-plain b (fails 0 (omega arith))) (markup-plain s k (omega arith) (λ j l. fails (suc j) (omega arith)))

pub markup_found : (o s : List ℕ) (k : ℕ) → IsFirstByte (is_byte3 38 60 62) s (Some k) →
    o ++ flat_map (escape false) s ≡ (o ++ take k s) ++ flat_map (escape false) (drop k s)
markup_found o s k found =
    let inside = found.0.high in
    ap (λ x. o ++ x) (markup-plain s k (omega arith) (λ j l. fails_not (is_byte3 38 60 62 (get_or s j 0)) (found.0.before j (omega arith) l)))
    ∙ sym (append_assoc o (take k s) (flat_map (escape false) (drop k s)))

pub markup_none : (s : List ℕ) → IsFirstByte (is_byte3 38 60 62) s None → flat_map (escape false) s ≡ s
markup_none s none =
    markup-plain s (length s) (le_refl (length s)) (λ j l. fails_not (is_byte3 38 60 62 (get_or s j 0)) (none j (omega arith) l))
    ∙ ap₂ (λ x y. x ++ flat_map (escape false) y) (take_all (length s) s (le_refl (length s))) (drop_all (length s) s (le_refl (length s)))
    ∙ append-nil s

-- Of all texts

-- no quote: escaped in a value as in a text
no-quote : (v : Bool) (b : ℕ) → is_byte2 194 34 b ≡ false → escape v b ≡ escape false b
no-quote true b e = here (b == 194) (b == 34) e
  where
    here : (x y : Bool) → (x || y) ≡ false →
        (if b == 38 then codes "&amp;" else if b == 60 then codes "&lt;" else if b == 62 then codes "&gt;" else if y then codes "&quot;" else b ∷ [])
        ≡ (if b == 38 then codes "&amp;" else if b == 60 then codes "&lt;" else if b == 62 then codes "&gt;" else b ∷ [])
    here true y h = cc
    here false true h = cc
    here false false h = refl
no-quote false b e = refl

-- a byte that is no mark, and then others
one-plain : (v : Bool) (b : ℕ) (s : List ℕ) → is_byte2 194 34 b ≡ false → escaped v (b ∷ s) ≡ escape false b ++ escaped v s
one-plain v b [] e = no-quote v b e ∙ sym (append-nil (escape false b))
one-plain v b (c ∷ s) e =
    here (b == 194) (b == 34) e ∙ ap (λ x. x ++ escaped v (c ∷ s)) (no-quote v b e)
  where
    here : (x y : Bool) → (x || y) ≡ false →
        (elim (x && c == 160) as (λ _. List ℕ) [
          | true ↦ codes "&nbsp;" ++ escaped v s
          | false ↦ escape v b ++ escaped v (c ∷ s)
        ])
        ≡ escape v b ++ escaped v (c ∷ s)
    here true y h = cc
    here false true h = cc
    here false false h = refl

marks-plain : (v : Bool) (s : List ℕ) (k : ℕ) → k ≤ length s → FailsBefore (is_byte2 194 34) s k → escaped v s ≡ flat_map (escape false) (take k s) ++ escaped v (drop k s)
marks-plain v s zero h fails = refl
marks-plain v [] (suc k) h fails = absurd (omega arith)
marks-plain v (b ∷ s) (suc k) h fails =
    one-plain v b s (fails 0 (omega arith))
    ∙ ap (λ x. escape false b ++ x) (marks-plain v s k (omega arith) (λ j l. fails (suc j) (omega arith)))
    ∙ sym (append_assoc (escape false b) (flat_map (escape false) (take k s)) (escaped v (drop k s)))

pub mark_found : (v : Bool) (o s : List ℕ) (k : ℕ) → IsFirstByte (is_byte2 194 34) s (Some k) →
    o ++ escaped v s ≡ (o ++ flat_map (escape false) (take k s)) ++ escaped v (drop k s)
mark_found v o s k found =
    let inside = found.0.high in
    ap (λ x. o ++ x) (marks-plain v s k (omega arith) (λ j l. fails_not (is_byte2 194 34 (get_or s j 0)) (found.0.before j (omega arith) l)))
    ∙ sym (append_assoc o (flat_map (escape false) (take k s)) (escaped v (drop k s)))

pub mark_none : (v : Bool) (s : List ℕ) → IsFirstByte (is_byte2 194 34) s None → escaped v s ≡ flat_map (escape false) s
mark_none v s none =
    marks-plain v s (length s) (le_refl (length s)) (λ j l. fails_not (is_byte2 194 34 (get_or s j 0)) (none j (omega arith) l))
    ∙ ap₂ (λ x y. flat_map (escape false) x ++ escaped v y) (take_all (length s) s (le_refl (length s))) (drop_all (length s) s (le_refl (length s)))
    ∙ append-nil (flat_map (escape false) s)
