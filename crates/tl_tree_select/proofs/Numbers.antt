-- Numbers that are found, one after the other.
use Rattle.std.proofs.Common.{◌≡◌, ◌<◌, ◌≤◌, ◌+◌, ◌++◌, ◌∷◌, ◌∙◌, [], ℕ, List, None, Option, Some, ap, length, arith, inl, inr, slice_get, subst, sym}
use Rattle.std.specs.List.{Contains}
use Rattle.std.proofs.lemmas.Bool.{cases_lt}
use Rattle.std.proofs.lemmas.List.Elements.{Contains-append_left, Contains-get_or, Contains-push, Contains-push_cases}
use Rattle.std.proofs.lemmas.List.Quantifiers.{all_pairs_push}
use Rattle.tl_css.specs.Selector.{Css}
use Rattle.tl_tree_select.specs.Inner.Finding.{AreBelow, IsFoundFrom}
use Rattle.tl_tree_select.specs.Meaning.{AreFound, AreFoundBehind, AreFoundBelow, IsBehind, outer_end_at}
use Rattle.tl_tree_select.specs.Page.{Page}
use Rattle.std.proofs.lemmas.Option.{none-some, same_Some}
use Rattle.std.specs.Option.{IsSomeAnd, option_map}
use Rattle.tl_tree.specs.Asked.{end_at}
use Rattle.tl_tree.specs.Rows.{Row}
use Rattle.tl_tree_select.proofs.Contents.{from_front, row_by}
use Rattle.tl_tree_select.proofs.Marks.{holds_within}

module _ (P : ℕ → Type 0) where
  pub none_below : AreBelow P 0 []
  none_below = record {
    rising = λ i j d lt w. absurd (omega (arith, w));
    each = λ n. (λ h. absurd (omega (arith, h.1)), λ h. absurd (omega (arith, h.0)));
  }

  pub one_below : (number : ℕ) (ns : List ℕ) → P number → AreBelow P number ns → AreBelow P (number + 1) (ns ++ number ∷ [])
  one_below number ns p a = record {
    rising = all_pairs_push (λ m n. m < n) ns number a.rising (λ k d w. ((a.each _).0 (Contains-get_or ns k d w)).0);
    each = λ n. (
      λ h. elim (Contains-push_cases ns number n h) [
        | inl c ↦ (let b = (a.each n).0 c in (omega (arith, b.0), b.1))
        | inr e ↦ (omega (arith, e), subst P e p)
      ],
      λ h. elim (cases_lt n number) [
        | inl lt ↦ Contains-append_left ns (number ∷ []) n ((a.each n).1 (lt, h.1))
        | inr ge ↦ (let here : number ≡ n = omega (arith, h.0, ge) in subst (λ (i : ℕ). Contains (ns ++ number ∷ []) i) here (Contains-push ns number))
      ],
    );
  }

  pub same_below : (number : ℕ) (ns : List ℕ) → (P number → ⊥) → AreBelow P number ns → AreBelow P (number + 1) ns
  same_below number ns none a = record {
    rising = a.rising;
    each = λ n. (
      λ h. (let b = (a.each n).0 h in (omega (arith, b.0), b.1)),
      λ h. elim (cases_lt n number) [
        | inl lt ↦ (a.each n).1 (lt, h.1)
        | inr ge ↦ absurd (let here : n ≡ number = omega (arith, h.0, ge) in none (subst P here h.1))
      ],
    );
  }

  -- nothing more is found up to another number
  pub none_between : (from to : ℕ) (ns : List ℕ) → from ≤ to → ((n : ℕ) → from ≤ n → n < to → P n → ⊥) → AreBelow P from ns → AreBelow P to ns
  none_between from to ns le none a = record {
    rising = a.rising;
    each = λ n. (
      λ h. (let b = (a.each n).0 h in (omega (arith, b.0, le), b.1)),
      λ h. elim (cases_lt n from) [
        | inl lt ↦ (a.each n).1 (lt, h.1)
        | inr ge ↦ absurd (none n ge h.0 h.1)
      ],
    );
  }

-- nothing is found before a search begins
pub none_from : (page : Page) (e : Css) (start : ℕ) → AreBelow (IsFoundFrom page e start) start []
none_from page e start = record {
  rising = λ i j d lt w. absurd (omega (arith, w));
  each = λ n. (λ h. absurd (omega (arith, h.1)), λ h. absurd (omega (arith, h.0, h.1.1)));
}

pub all_found : (page : Page) (e : Css) (ns : List ℕ) → AreBelow (IsFoundFrom page e 0) (length page.rows) ns → AreFound page e ns
all_found page e ns a = record {
  rising = a.rising;
  each = λ n. (
    λ h. (from_front page e n).0 ((a.each n).0 h).1,
    λ h. (a.each n).1 (holds_within page e n h.0, (from_front page e n).1 h),
  );
}

-- what a search finds up to the end of a row is what it finds below the row
pub all_below : (page : Page) (e : Css) (outer end : ℕ) (ns : List ℕ) → end_at page.rows outer ≡ Some end → AreBelow (IsFoundFrom page e (outer + 1)) end ns
    → AreFoundBelow page e outer ns
all_below page e outer end ns at a =
    let own = row_by (slice_get page.rows outer) end at in
    let is = own.2 in
    record {
      rising = a.rising;
      each = λ n. (
        λ c.
            let h = (a.each n).0 c in
            (h.1.0, (own.0, own.1, omega (arith, h.1.1), omega (arith, h.0, is)), λ m here inner range. h.1.2 (m, omega (arith, inner.2), here, range)),
        λ h.
            let one : Some own.0 ≡ Some h.1.0 = sym own.1 ∙ h.1.1 in
            let alike : own.0.end ≡ h.1.0.end = ap (λ (row : Row). row.end) (same_Some own.0 h.1.0 one) in
            let last : n < end = omega (arith, h.1.3, alike, is) in
            (a.each n).1 (last, (h.0, omega (arith, h.1.2), λ k. h.2 k.0 k.2 (own.0, own.1, omega (arith, k.1), omega (arith, k.3.2, last, is)) k.3)),
      );
    }

-- below what is no row nothing is found
pub none_below_row : (page : Page) (e : Css) (outer : ℕ) → end_at page.rows outer ≡ None → AreFoundBelow page e outer []
none_below_row page e outer none = record {
  rising = λ i j d lt w. absurd (omega (arith, w));
  each = λ n. (
    λ h. absurd (omega (arith, h.1)),
    λ h. absurd (none-some h.1.0.end (sym none ∙ ap (option_map (λ (row : Row). row.end)) h.1.1)),
  );
}

-- what a search finds from where a row ends up to where the one around it does is what it finds behind the row
pub all_behind : (page : Page) (e : Css) (before start end : ℕ) (ns : List ℕ) → end_at page.rows before ≡ Some start → outer_end_at page.rows before ≡ Some end
    → AreBelow (IsFoundFrom page e start) end ns → AreFoundBehind page e before ns
all_behind page e before start end ns at outer a =
    let inside : (n : ℕ) → start ≤ n → n < end → IsBehind page before n = λ n ge lt. (
      subst (λ (o : Option ℕ). IsSomeAnd o (λ start. start ≤ n)) (sym at) ge,
      subst (λ (o : Option ℕ). IsSomeAnd o (λ end. n < end)) (sym outer) lt,
    ) in
    let first : (n : ℕ) → IsBehind page before n → start ≤ n = λ n h. subst (λ (o : Option ℕ). IsSomeAnd o (λ start. start ≤ n)) at h.0 in
    let last : (n : ℕ) → IsBehind page before n → n < end = λ n h. subst (λ (o : Option ℕ). IsSomeAnd o (λ end. n < end)) outer h.1 in
    record {
      rising = a.rising;
      each = λ n. (
        λ c.
            let h = (a.each n).0 c in
            (h.1.0, inside n h.1.1 h.0, λ m here behind range. h.1.2 (m, first m behind, here, range)),
        λ h.
            let lt = last n h.1 in
            (a.each n).1 (lt, (h.0, first n h.1, λ k. h.2 k.0 k.2 (inside k.0 k.1 (omega (arith, k.3.2, lt))) k.3)),
      );
    }

-- behind what is no row, and where nothing is left, nothing is found
pub none_behind : (page : Page) (e : Css) (before : ℕ) → ((n : ℕ) → IsBehind page before n → ⊥) → AreFoundBehind page e before []
none_behind page e before none = record {
  rising = λ i j d lt w. absurd (omega (arith, w));
  each = λ n. (λ h. absurd (omega (arith, h.1)), λ h. absurd (none n h.1));
}
