-- The first `base` of a page.
use Rattle.std.proofs.Common.{Bool, List, None, Option, Some, arith, [], false, inl, inr, length, refl, suc, sym, true, true≢false, zero, ℕ, ◌+◌, ◌<◌, ◌∙◌, ◌≡◌, ◌≤◌, ap}
use Rattle.std.proofs.lemmas.Bool.{and_parts, cases_lt}
use Rattle.std.proofs.lemmas.Option.{slice_get_past}
use Rattle.std.specs.Option.{is_some, option_and_then, option_map, unwrap_or}
use Rattle.std.specs.Prelude.{codes}
use Rattle.tl_tree.specs.Asked.{attributes_at, attributes_of, value_of}
use Rattle.tl_tree.specs.Rows.{Row}
use Rattle.tl_tree_extract.specs.Links.{base_names, has_base, is_base_at, is_shown}
use Rattle.tl_tree_extract.specs.Named.{is_named_at}
use Rattle.tl_values.specs.Absolute.{base_href, first_base, first_from}

opened : (test : ℕ → Bool) (most n : ℕ) (v : Bool) → test n ≡ v
    → first_from test (suc most) n ≡ (elim v as (λ _. Option ℕ) [ true ↦ Some n | false ↦ first_from test most (n + 1) ])
opened test most n v h = ap (λ (b : Bool). elim b as (λ _. Option ℕ) [ true ↦ Some n | false ↦ first_from test most (n + 1) ]) h

none_from : (test : ℕ → Bool) (most n : ℕ) → ((k : ℕ) → n ≤ k → k < n + most → test k ≡ false) → first_from test most n ≡ None
none_from test zero n h = refl
none_from test (suc most) n h =
    opened test most n false (h n (omega arith) (omega arith)) ∙ none_from test most (n + 1) (λ k lo hi. h k (omega arith) (omega arith))

some_from : (test : ℕ → Bool) (d most n : ℕ) → test (n + d) ≡ true → ((k : ℕ) → n ≤ k → k < n + d → test k ≡ false) → d < most → first_from test most n ≡ Some (n + d)
some_from test d zero n is h lt = absurd (omega (arith, lt))
some_from test zero (suc most) n is h lt =
    let here : n + 0 ≡ n = omega arith in
    opened test most n true (ap test (sym here) ∙ is) ∙ ap (λ k. Some k) (sym here)
some_from test (suc d) (suc most) n is h lt =
    let next : (n + 1) + d ≡ n + suc d = omega arith in
    opened test most n false (h n (omega arith) (omega arith))
    ∙ some_from test d most (n + 1) (ap test next ∙ is) (λ k lo hi. h k (omega arith) (omega arith)) (omega (arith, lt))
    ∙ ap (λ k. Some k) next

within : (rows : List Row) (n : ℕ) → is_base_at rows n ≡ true → n < length rows
within rows n is =
    elim (cases_lt n (length rows)) [
      | inl lt ↦ lt
      | inr ge ↦ (
          let none = slice_get_past rows n ge in
          let has : has_base rows n ≡ true = (and_parts (is_shown rows n) (has_base rows n) is).1 in
          let valued : is_some (value_of (codes "href") (attributes_at rows n)) ≡ true =
          (and_parts (is_named_at base_names rows n) (is_some (value_of (codes "href") (attributes_at rows n))) has).1 in
          let no : is_some (value_of (codes "href") (attributes_at rows n)) ≡ false =
          ap (λ (row : Option Row). is_some (value_of (codes "href") (unwrap_or (option_map attributes_of (option_map (λ (r : Row). r.node) row)) []))) none in
          absurd (true≢false (sym valued ∙ no)))
    ]

pub no_base : (rows : List Row) → ((n : ℕ) → n < length rows → is_base_at rows n ≡ false) → first_base rows ≡ None
no_base rows h = none_from (is_base_at rows) (length rows) 0 (λ k lo hi. h k (omega (arith, hi)))

pub some_base : (rows : List Row) (n : ℕ) → is_base_at rows n ≡ true → ((m : ℕ) → m < n → is_base_at rows m ≡ false) → first_base rows ≡ Some n
some_base rows n is h =
    let lt = within rows n is in
    let same : 0 + n ≡ n = omega arith in
    some_from (is_base_at rows) n (length rows) 0 (ap (is_base_at rows) same ∙ is) (λ k lo hi. h k (omega (arith, hi))) lt
    ∙ ap (λ k. Some k) same

pub href_none : (rows : List Row) → ((n : ℕ) → n < length rows → is_base_at rows n ≡ false) → base_href rows ≡ None
href_none rows h = ap (option_and_then (λ (n : ℕ). value_of (codes "href") (attributes_at rows n))) (no_base rows h)

pub href_some : (rows : List Row) (n : ℕ) → is_base_at rows n ≡ true → ((m : ℕ) → m < n → is_base_at rows m ≡ false)
    → base_href rows ≡ value_of (codes "href") (attributes_at rows n)
href_some rows n is h = ap (option_and_then (λ (n : ℕ). value_of (codes "href") (attributes_at rows n))) (some_base rows n is h)
