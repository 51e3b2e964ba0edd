-- Marks of numbers by where their links lead.
use Rattle.std.proofs.Common.{◌≡◌, ◌<◌, ◌≤◌, ◌⊎◌, ◌↔◌, ℕ, zero, suc, Bool, true, false, ◌||◌, ◌&&◌, List, [], ◌∷◌, ◌++◌, length, sym, ap, ◌∙◌, arith, inl, inr, refl, subst, Option, None, Some, IfSome}
use Rattle.std.specs.Option.{option_map_or}
use Rattle.std.proofs.lemmas.Bool.{and_parts, or_cases, or_left, or_right, false≢true, cases_lt}
use Rattle.std.proofs.lemmas.List.{get_or_append_left, get_or_push, get_or_past}
use Rattle.std.proofs.lemmas.Option.{slice_get_past}
use Rattle.tl_tree_select.specs.Inner.Links.{AreLower, AreLinked, IsSource, is_at, link_at, link_or_none, passes_on, source_mark}

pub link_past : (links : List ℕ) (n : ℕ) → length links ≤ n → link_at links n ≡ None
link_past links n le = ap (λ (o : Option ℕ). elim o as (λ _. Option ℕ) [ None ↦ None | Some to ↦ link_or_none to ]) (slice_get_past links n le)

-- a link leads from numbers of the table alone
pub link_within : (links : List ℕ) (n m : ℕ) → link_at links n ≡ Some m → n < length links
link_within links n m e = elim (cases_lt n (length links)) [
  | inl w ↦ w
  | inr w ↦ absurd (let none = link_past links n w in let both : None ≡ Some m = sym none ∙ e in cc)
]

pub lower_at : (links : List ℕ) → AreLower links → (n m : ℕ) → link_at links n ≡ Some m → m < n
lower_at links lower n m e = subst (λ (o : Option ℕ). IfSome o (λ to. to < n)) e (lower n)

-- the mark that a link asks for is the same after a push, where the link leads below it
by_link : (o : Option ℕ) (marks found : List Bool) (often x : Bool) → IfSome o (λ to. to < length found)
    → option_map_or (passes_on marks often (found ++ x ∷ [])) o false ≡ option_map_or (passes_on marks often found) o false
by_link None marks found often x h = refl
by_link (Some to) marks found often x h = ap (λ b. is_at marks to || (often && b)) (get_or_append_left found (x ∷ []) false to h)

pub below : (o : Option ℕ) (n len : ℕ) → n ≤ len → IfSome o (λ to. to < n) → IfSome o (λ to. to < len)
below None n len le h = tt
below (Some to) n len le h = omega (arith, le, h)

stable : (links : List ℕ) (marks found : List Bool) (often x : Bool) (n : ℕ) → AreLower links → n ≤ length found
    → source_mark links marks often (found ++ x ∷ []) n ≡ source_mark links marks often found n
stable links marks found often x n lower le = by_link (link_at links n) marks found often x (below (link_at links n) n (length found) le (lower n))

-- after a push all marks up to it are as their links say
pub one_more : (links : List ℕ) (marks found : List Bool) (often x : Bool) (n : ℕ) → AreLower links
    → ((i : ℕ) → i < length found → is_at found i ≡ source_mark links marks often found i)
    → x ≡ source_mark links marks often found (length found)
    → (n < length found) ⊎ (n ≡ length found)
    → is_at (found ++ x ∷ []) n ≡ source_mark links marks often (found ++ x ∷ []) n
one_more links marks found often x n lower each e (inl lt) =
    get_or_append_left found (x ∷ []) false n lt ∙ each n lt ∙ sym (stable links marks found often x n lower (omega (arith, lt)))
one_more links marks found often x n lower each e (inr same) =
    get_or_push found x false n (sym same) ∙ e
    ∙ ap (λ i. source_mark links marks often found i) (sym same)
    ∙ sym (stable links marks found often x n lower (omega (arith, same)))

-- what a link says is so
AreMarked : List ℕ → List Bool → Bool → List Bool → Type 0
AreMarked links marks often found = (n : ℕ) → is_at found n ≡ source_mark links marks often found n

everywhere : (links : List ℕ) (marks : List Bool) (often : Bool) (found : List Bool) → length found ≡ length links
    → ((n : ℕ) → n < length links → is_at found n ≡ source_mark links marks often found n) → AreMarked links marks often found
unfolding AreMarked
everywhere links marks often found len each n = elim (cases_lt n (length links)) [
  | inl w ↦ each n w
  | inr w ↦ get_or_past found n false (omega (arith, len, w)) ∙ sym (ap (λ (o : Option ℕ). option_map_or (passes_on marks often found) o false) (link_past links n w))
]

module _ (links : List ℕ) (marks found : List Bool) (lower : AreLower links) where
  once_by : (n : ℕ) (o : Option ℕ) → link_at links n ≡ o → option_map_or (passes_on marks false found) o false ≡ true → IsSource links marks false n
  once_by n None e h = absurd (false≢true h)
  once_by n (Some to) e h = elim (or_cases (is_at marks to) (false && is_at found to) h) as (λ _. IsSource links marks false n) [
    | inl mark ↦ (to, e, mark)
    | inr more ↦ absurd (false≢true more)
  ]

  once_at : (n m : ℕ) → link_at links n ≡ Some m → is_at marks m ≡ true → source_mark links marks false found n ≡ true
  once_at n m e mark = ap (λ (o : Option ℕ). option_map_or (passes_on marks false found) o false) e ∙ or_left (is_at marks m) (false && is_at found m) mark

  often_by : (n : ℕ) → ((to : ℕ) → to < n → is_at found to ≡ true → IsSource links marks true to)
      → (o : Option ℕ) → link_at links n ≡ o → option_map_or (passes_on marks true found) o false ≡ true → IsSource links marks true n
  often_by n earlier None e h = absurd (false≢true h)
  often_by n earlier (Some to) e h = elim (or_cases (is_at marks to) (true && is_at found to) h) as (λ _. IsSource links marks true n) [
    | inl mark ↦ (to, (0, e), mark)
    | inr more ↦ (let r = earlier to (lower_at links lower n to e) ((and_parts true (is_at found to) more).1) in (r.0, (suc r.1.0, (to, e, r.1.1)), r.2))
  ]

  module _ (each : AreMarked links marks true found) where
    -- a mark stands only where links lead to a marked number
    sound : (bound n : ℕ) → n < bound → is_at found n ≡ true → IsSource links marks true n
    unfolding AreMarked
    sound zero n h mark = absurd (omega (arith, h))
    sound (suc bound) n h mark =
        often_by n (λ to lt m. sound bound to (omega (arith, lt, h)) m) (link_at links n) refl (sym (each n) ∙ mark)

    -- and everywhere there
    complete : (k m n : ℕ) → AreLinked links k m n → is_at marks m ≡ true → is_at found n ≡ true
    unfolding AreMarked
    complete zero m n e mark =
        each n ∙ ap (λ (o : Option ℕ). option_map_or (passes_on marks true found) o false) e
        ∙ or_left (is_at marks m) (true && is_at found m) mark
    complete (suc k) m n s mark =
        each n ∙ ap (λ (o : Option ℕ). option_map_or (passes_on marks true found) o false) s.1
        ∙ or_right (is_at marks s.0) (true && is_at found s.0) (complete k m s.0 s.2 mark)

pub exact : (links : List ℕ) (marks found : List Bool) (often : Bool) → AreLower links → length found ≡ length links
    → ((n : ℕ) → n < length links → is_at found n ≡ source_mark links marks often found n)
    → (n : ℕ) → (is_at found n ≡ true) ↔ IsSource links marks often n
unfolding AreMarked
exact links marks found false lower len each n =
    let all = everywhere links marks false found len each in
    (λ mark. once_by links marks found lower n (link_at links n) refl (sym (all n) ∙ mark), λ s. all n ∙ once_at links marks found lower n s.0 s.1 s.2)
exact links marks found true lower len each n =
    let all = everywhere links marks true found len each in
    (λ mark. sound links marks found lower all (suc n) n (omega arith) mark, λ s. complete links marks found lower all s.1.0 s.0 n s.1.1 s.2)
