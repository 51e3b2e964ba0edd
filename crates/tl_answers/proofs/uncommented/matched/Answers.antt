use Rattle.std.proofs.Common.{Bool, List, [], ap, ap₂, filter, get_or, if◌then◌else◌, length, subst, sym, take, true, false, ◌+◌, ◌++◌, ◌<◌, ◌∙◌, ◌∷◌, ◌≡◌, ℕ, refl, inl, inr}
use Rattle.std.proofs.lemmas.Bool.{cases_Bool}
use Rattle.std.proofs.lemmas.List.{take_more}
use Rattle.std.proofs.lemmas.List.Elements.{filter-append}
use Rattle.tl_answers.specs.Uncommented.{is_matched}
use Rattle.tl_tree.specs.TreeView.{rows_in}
use Rattle.tl_answers.proofs.uncommented.matched.Goals as goal

one : (f : ℕ → Bool) (n : ℕ) → filter f (n ∷ []) ≡ (if f n then n ∷ [] else [])
one f n = elim (cases_Bool (f n)) [
  | inl y ↦ rw y refl
  | inr y ↦ rw y refl
]

more : (f : ℕ → Bool) (xs : List ℕ) (at d : ℕ) (is : Bool) (old new : List ℕ) → at < length xs → is ≡ f (get_or xs at d) → new ≡ old ++ (if is then get_or xs at d ∷ [] else []) →
    old ≡ filter f (take at xs) → new ≡ filter f (take (at + 1) xs)
more f xs at d is old new l i e o =
    let n : ℕ = get_or xs at d in
    e ∙ ap₂ (λ (a : List ℕ) (b : Bool). a ++ (if b then n ∷ [] else [])) o i ∙ ap (λ (a : List ℕ). filter f (take at xs) ++ a) (sym (one f n))
    ∙ sym (filter-append f (take at xs) (n ∷ [])) ∙ ap (λ (a : List ℕ). filter f a) (sym (take_more xs at d l))

pub loop-number-preserved : goal.loop-number-preserved
loop-number-preserved c = record {
  same = c.is_matched-is_meant.ensures.same;
  found = more (is_matched c.args.regex.now (rows_in c.args.tree.now)) c.args.numbers.now c.loop-number.number-index _ c.is_matched-is_meant.result c.loop-number.left.items c.push_if.new.left.items c.loop-number-test.true
      c.is_matched-is_meant.ensures.found c.in_ok-push_if.ensures c.loop-number.invariant.found;
}
