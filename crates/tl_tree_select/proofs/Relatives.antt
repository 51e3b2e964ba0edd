-- Marks that links pass on, and counts along them, as the meaning has them.
use Rattle.std.proofs.Common.{◌≡◌, ◌<◌, ◌⊎◌, ◌↔◌, ℕ, zero, suc, Bool, true, false, List, [], ◌∷◌, length, sym, ◌∙◌, arith, inl, inr, refl, subst}
use Rattle.std.specs.List.{AllPairs, Contains}
use Rattle.std.proofs.lemmas.Bool.{false≢true}
use Rattle.tl_tree_select.specs.Page.{Page}
use Rattle.tl_css.specs.declared.selector.Link.{Link}
use Rattle.tl_css.specs.declared.selector.Link.TheVariants.{Parent, Sibling, Twin}
use Rattle.tl_css.specs.declared.selector.Reach.{Reach}
use Rattle.tl_css.specs.declared.selector.Reach.TheVariants.{Once, Often}
use Rattle.tl_css.specs.declared.selector.Way.{Way}
use Rattle.tl_css.specs.declared.selector.Way.TheVariants.{From, To}
use Rattle.tl_css.specs.declared.selector.Formula.{Formula}
use Rattle.tl_css.specs.Selector.{Css, At, Nth}
use Rattle.tl_tree_select.specs.Meaning.{AreLinks, Holds, IsBefore, IsCount, IsElement, IsReached, IsTerm, IsUpTo, StandsThere}
use Rattle.tl_tree_select.specs.Inner.Columns.{AreMarks, IsCounted, IsPassed, is_often}
use Rattle.tl_tree_select.specs.Inner.Kin.{AreLinksOf, is_read}
use Rattle.tl_tree_select.specs.Inner.Links.{AreLinked, IsLinked, count_at, is_at}
use Rattle.tl_tree_select.proofs.Marks.{marks_within}

-- Links that are kept lead from elements to elements

to_element : (page : Page) (link : Link) (m n : ℕ) → IsBefore page link m n → IsElement page m
to_element page Parent m n h = h.0
to_element page Sibling m n h = h.1.first
to_element page Twin m n h = h.1.first

from_element : (page : Page) (link : Link) (m n : ℕ) → is_read From link ≡ false → IsBefore page link m n → IsElement page n
from_element page Parent m n kept h = absurd (false≢true (sym kept))
from_element page Sibling m n kept h = h.1.second
from_element page Twin m n kept h = h.1.second

module _ (page : Page) (link : Link) (links : List ℕ) (are : AreLinksOf page link links) where
  linked_from : (often : Bool) (m n : ℕ) → is_read From link ≡ false → IsLinked links often m n → IsElement page n
  linked_from false m n kept e = from_element page link m n kept ((are.each m n).0 e).0
  linked_from true m n kept (zero, a) = from_element page link m n kept ((are.each m n).0 a).0
  linked_from true m n kept (suc k, a) = from_element page link a.0 n kept ((are.each a.0 n).0 a.1).0

  chain_to : (k m n : ℕ) → AreLinked links k m n → IsElement page m
  chain_to zero m n a = to_element page link m n ((are.each m n).0 a).0
  chain_to (suc k) m n a = chain_to k m a.0 a.2

  linked_to : (often : Bool) (m n : ℕ) → IsLinked links often m n → IsElement page m
  linked_to false m n e = to_element page link m n ((are.each m n).0 e).0
  linked_to true m n a = chain_to a.0 m n a.1

  passed_element : (marks : List Bool) (way : Way) → is_read way link ≡ false → (often : Bool) (n : ℕ) → IsPassed links marks way often n → IsElement page n
  passed_element marks From kept often n s = linked_from often s.0 n kept s.1
  passed_element marks To kept often n s = linked_to often n s.0 s.1

module _ (page : Page) (link : Link) (links : List ℕ) (are : AreLinksOf page link links) where
  links_are : (k m n : ℕ) → AreLinked links k m n → AreLinks page link k m n
  links_are zero m n e = (are.each m n).0 e
  links_are (suc k) m n a = (a.0, (are.each a.0 n).0 a.1, links_are k m a.0 a.2)

  are_links : (k m n : ℕ) → AreLinks page link k m n → AreLinked links k m n
  are_links zero m n h = (are.each m n).1 h
  are_links (suc k) m n a = (a.0, (are.each a.0 n).1 a.1, are_links k m a.0 a.2)

  reached : (reach : Reach) (m n : ℕ) → IsLinked links (is_often reach) m n ↔ IsReached page link reach m n
  reached Once m n = are.each m n
  reached Often m n = (λ a. (a.0, links_are a.0 m n a.1), λ a. (a.0, are_links a.0 m n a.1))

  module _ (e : Css) (marks : List Bool) (p : AreMarks page e marks) where
    passed_is : (way : Way) (reach : Reach) (n : ℕ) → IsPassed links marks way (is_often reach) n ↔ ((m : ℕ) × StandsThere page way link reach m n × Holds page e m)
    passed_is From reach n = (
      λ s. (s.0, (reached reach s.0 n).0 s.1, (p.each s.0).0 s.2),
      λ s. (s.0, (reached reach s.0 n).1 s.1, (p.each s.0).1 s.2),
    )
    passed_is To reach n = (
      λ s. (s.0, (reached reach n s.0).0 s.1, (p.each s.0).0 s.2),
      λ s. (s.0, (reached reach n s.0).1 s.1, (p.each s.0).1 s.2),
    )

    -- marks that are passed on
    pub marks_related : (way : Way) (reach : Reach) → is_read way link ≡ false → (found : List Bool) → length found ≡ length links
        → ((n : ℕ) → (is_at found n ≡ true) ↔ IsPassed links marks way (is_often reach) n)
        → AreMarks page (At way link reach e) found
    marks_related way reach kept found len each = record {
      len = len ∙ are.len;
      each = λ n. (
        λ mark.
            let p = (each n).0 mark in
            let s = (passed_is way reach n).0 p in
            (passed_element page link links are marks way kept (is_often reach) n p, s.0, s.1, s.2),
        λ h. (each n).1 ((passed_is way reach n).1 (h.1, h.2, h.3)),
      );
    }

    counted_is : (way : Way) (n m : ℕ) → IsCounted links marks way n m ↔ (IsUpTo page way link m n × Holds page e m)
    counted_is From n m = (
      λ h. (elim h.0 [ inl same ↦ inl same | inr a ↦ inr ((reached Often m n).0 a) ], (p.each m).0 h.1),
      λ h. (elim h.0 [ inl same ↦ inl same | inr a ↦ inr ((reached Often m n).1 a) ], (p.each m).1 h.1),
    )
    counted_is To n m = (
      λ h. (elim h.0 [ inl same ↦ inl same | inr a ↦ inr ((reached Often n m).0 a) ], (p.each m).0 h.1),
      λ h. (elim h.0 [ inl same ↦ inl same | inr a ↦ inr ((reached Often n m).1 a) ], (p.each m).1 h.1),
    )

-- the same numbers are counted
like : (P Q : ℕ → Type 0) (count : ℕ) → ((m : ℕ) → P m ↔ Q m) → IsCount P count → IsCount Q count
like P Q count same c = record {
  numbers = c.numbers;
  rising = c.rising;
  each = λ m. (λ h. (same m).0 ((c.each m).0 h), λ q. (c.each m).1 ((same m).1 q));
  many = c.many;
}

-- rising numbers are told by what they contain
Rises : List ℕ → Type 0
Rises xs = AllPairs (λ m n. m < n) xs

rises_tail : (x : ℕ) (xs : List ℕ) → Rises (x ∷ xs) → Rises xs
unfolding Rises
rises_tail x xs h = λ i j d lt w. h (suc i) (suc j) d (omega (arith, lt)) (omega (arith, w))

rises_head : (x : ℕ) (xs : List ℕ) (m : ℕ) → Rises (x ∷ xs) → Contains xs m → x < m
unfolding Rises
rises_head x xs m h c = let lt = h 0 (suc c.0) m (omega arith) (omega (arith, c.1)) in subst (λ (i : ℕ). x < i) c.2 lt

front : (x : ℕ) (xs : List ℕ) → Contains (x ∷ xs) x
front x xs = (0, omega arith, refl)

later : (x : ℕ) (xs : List ℕ) (m : ℕ) → Contains xs m → Contains (x ∷ xs) m
later x xs m c = (suc c.0, omega (arith, c.1), c.2)

cases : (x : ℕ) (xs : List ℕ) (m : ℕ) → Contains (x ∷ xs) m → (x ≡ m) ⊎ Contains xs m
cases x xs m (zero, lt, e) = inl e
cases x xs m (suc k, lt, e) = inr (k, omega (arith, lt), e)

same_many : (xs ys : List ℕ) → Rises xs → Rises ys → ((m : ℕ) → Contains xs m → Contains ys m) → ((m : ℕ) → Contains ys m → Contains xs m) → length xs ≡ length ys
same_many [] [] r s f g = refl
same_many [] (y ∷ ys) r s f g = absurd (let c = g y (front y ys) in omega (arith, c.1))
same_many (x ∷ xs) [] r s f g = absurd (let c = f x (front x xs) in omega (arith, c.1))
same_many (x ∷ xs) (y ∷ ys) r s f g =
    let first : x ≡ y = elim (cases y ys x (f x (front x xs))) as (λ _. x ≡ y) [
      | inl e ↦ sym e
      | inr c ↦ elim (cases x xs y (g y (front y ys))) as (λ _. x ≡ y) [
        | inl e ↦ e
        | inr d ↦ absurd (let a = rises_head y ys x s c in let b = rises_head x xs y r d in omega (arith, a, b))
      ]
    ] in
    let rest = same_many xs ys (rises_tail x xs r) (rises_tail y ys s)
    (λ m c. elim (cases y ys m (f m (later x xs m c))) as (λ _. Contains ys m) [
      | inl e ↦ absurd (let lt = rises_head x xs m r c in omega (arith, lt, first, e))
      | inr d ↦ d
    ])
    (λ m c. elim (cases x xs m (g m (later y ys m c))) as (λ _. Contains xs m) [
      | inl e ↦ absurd (let lt = rises_head y ys m s c in omega (arith, lt, first, e))
      | inr d ↦ d
    ]) in
    omega (arith, rest)

pub one_count : (P : ℕ → Type 0) (a b : ℕ) → IsCount P a → IsCount P b → a ≡ b
unfolding Rises
one_count P a b c d =
    sym c.many ∙ same_many c.numbers d.numbers c.rising d.rising (λ m h. (d.each m).1 ((c.each m).0 h)) (λ m h. (c.each m).1 ((d.each m).0 h)) ∙ d.many

pub marks_counted : (page : Page) (link : Link) (links : List ℕ) → AreLinksOf page link links → (e : Css) (marks : List Bool) → AreMarks page e marks
    → (way : Way) (formula : Formula) (counts : List ℕ) (found : List Bool) → length found ≡ length page.rows
    → ((n : ℕ) → n < length page.rows → IsCount (IsCounted links marks way n) (count_at counts n))
    → ((n : ℕ) → n < length page.rows → (is_at found n ≡ true) ↔ ((is_at marks n ≡ true) × IsTerm formula (count_at counts n)))
    → AreMarks page (Nth way link formula e) found
marks_counted page link links are e marks p way formula counts found len counted each =
    marks_within page (Nth way link formula e) found len (λ n w.
    let count : IsCount (λ m. IsUpTo page way link m n × Holds page e m) (count_at counts n) =
    like (IsCounted links marks way n) (λ m. IsUpTo page way link m n × Holds page e m) (count_at counts n) (counted_is page link links are e marks p way n) (counted n w) in (
      λ mark. (let h = (each n w).0 mark in ((p.each n).0 h.0, count_at counts n, count, h.1)),
      λ h. (each n w).1 (
        (p.each n).1 h.0,
        subst (λ (k : ℕ). IsTerm formula k) (one_count (λ m. IsUpTo page way link m n × Holds page e m) h.1 (count_at counts n) h.2 count) h.3,
      ),
    ))
