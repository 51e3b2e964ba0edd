-- Where a node begins, node by node.
use Rattle.std.proofs.Common.{None, Option, Some, add-one, arith, refl, subst, suc, sym, zero, ℕ, ◌+◌, ◌-◌, ◌<◌, ◌≡◌}
use Rattle.tl_answers.specs.Places.{place_from}
use Rattle.tl_tree.specs.declared.source.Source.{Source}

module _ (sources : ℕ → Option Source) (size : ℕ) where
  next_by : (most left n : ℕ) → left ≡ suc most → sources n ≡ None → place_from sources size left n ≡ place_from sources size most (suc n)
  next_by most left n e none = rw (e, none, place_from) refl

  found_by : (most left n : ℕ) (source : Source) → left ≡ suc most → sources n ≡ Some source → place_from sources size left n ≡ source.start
  found_by most left n source e some = rw (e, some, place_from) refl

  -- what stands nowhere in the page is gone past
  pub place_next : (count n : ℕ) → n < count → sources n ≡ None → place_from sources size (count - n) n ≡ place_from sources size (count - (n + 1)) (n + 1)
  place_next count n within none =
      subst (λ (m : ℕ). place_from sources size (count - n) n ≡ place_from sources size (count - m) m) (sym (add-one n))
      (next_by (count - suc n) (count - n) n (omega (arith, within)) none)

  pub place_found : (count n : ℕ) (source : Source) → n < count → sources n ≡ Some source → place_from sources size (count - n) n ≡ source.start
  place_found count n source within some = found_by (count - suc n) (count - n) n source (omega (arith, within)) some

  end_by : (left n : ℕ) → left ≡ 0 → place_from sources size left n ≡ size
  end_by left n e = rw (e, place_from) refl

  pub place_end : (count n : ℕ) → count - n ≡ 0 → place_from sources size (count - n) n ≡ size
  place_end count n e = end_by (count - n) n e
