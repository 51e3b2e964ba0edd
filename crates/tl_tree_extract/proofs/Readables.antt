-- A step of a walk over rows.
use Rattle.std.proofs.Common.{Bool, List, [], ap, arith, false, if◌then◌else◌, inl, inr, nat_le, nat_lt, refl, suc, sym, true, zero, ℕ, ◌&&◌, ◌+◌, ◌-◌, ◌++◌, ◌<◌, ◌∙◌, ◌≡◌, ◌≤◌, ◌∷◌}
use Rattle.std.proofs.lemmas.Bool.{cases_Bool, le-ltb, lt-ltb}
use Rattle.std.proofs.lemmas.List.{append_assoc}
use Rattle.std.specs.Option.{unwrap_or}
use Rattle.std.specs.Prelude.{max}
use Rattle.tl_tree.specs.Asked.{ancestors_at, end_at}
use Rattle.tl_tree.specs.Below.{ends_at}
use Rattle.tl_tree.specs.Rows.{Row}
use Rattle.tl_tree_extract.proofs.Flows.{written-append}
use Rattle.tl_tree_extract.specs.Boxes.{box_at, display_at, is_hidden}
use Rattle.tl_tree_extract.specs.Flowing.{Item, after_item, after_items, an_end, written}
use Rattle.tl_tree_extract.specs.Readable.{behind_of, ended_of, ended_outside, items_from, items_up_to, kept_of, opened_of}
use Rattle.tl_tree_extract.specs.declared.text.display.Display.{Display}
use Rattle.tl_tree_extract.specs.declared.text.flow.Flow.{Flow}

when-true : (b : Bool) (x : List Item) → b ≡ true → (elim b as (λ _. List Item) [ true ↦ x | false ↦ [] ]) ≡ x
when-true true x e = refl
when-true false x e = cc

when-false : (b : Bool) (x : List Item) → b ≡ false → (elim b as (λ _. List Item) [ true ↦ x | false ↦ [] ]) ≡ []
when-false true x e = cc
when-false false x e = refl

further : (v : Bool) (n e : ℕ) → n < (if v then max (n + 1) e else n + 1)
further true n e = omega arith
further false n e = omega arith

pub behind-further : (R : List Row) (d : Display) (n : ℕ) → n < behind_of R d n
behind-further R d n = further (is_hidden d) n (unwrap_or (end_at R n) 0)

-- how many rows there may be makes no difference, where all may be
enough : (marks : List Bool) (R : List Row) (first end f g kept n : ℕ) → end ≤ n + f → end ≤ n + g → items_up_to marks R first end f kept n ≡ items_up_to marks R first end g kept n
enough marks R first end zero zero kept n h k = refl
enough marks R first end zero (suc g) kept n h k = sym (when-false (nat_lt n end) _ (le-ltb n end (omega arith)))
enough marks R first end (suc f) zero kept n h k = when-false (nat_lt n end) _ (le-ltb n end (omega arith))
enough marks R first end (suc f) (suc g) kept n h k = elim (cases_Bool (nat_lt n end)) [
  | inl less ↦
      let d = display_at marks R n in
      let l = behind-further R d n in
      let inner = kept_of R d kept n in
      when-true (nat_lt n end) _ less
      ∙ ap (λ x. opened_of R d (nat_lt n inner) n ++ (ended_of R d first (behind_of R d n) n ++ x)) (enough marks R first end f g inner (behind_of R d n) (omega (arith, l)) (omega (arith, l)))
      ∙ sym (when-true (nat_lt n end) _ less)
  | inr more ↦ when-false (nat_lt n end) _ more ∙ sym (when-false (nat_lt n end) _ more)
]

items-more : (marks : List Bool) (R : List Row) (first end kept n : ℕ) → n < end →
    items_from marks R first end kept n ≡
    opened_of R (display_at marks R n) (nat_lt n (kept_of R (display_at marks R n) kept n)) n
    ++ (ended_of R (display_at marks R n) first (behind_of R (display_at marks R n) n) n
    ++ items_from marks R first end (kept_of R (display_at marks R n) kept n) (behind_of R (display_at marks R n) n))
items-more marks R first end kept n h =
    let d = display_at marks R n in
    let l = behind-further R d n in
    let inner = kept_of R d kept n in
    let most : end - n ≡ suc (end - n - 1) = omega arith in
    ap (λ f. items_up_to marks R first end f kept n) most
    ∙ when-true (nat_lt n end) _ (lt-ltb n end h)
    ∙ ap (λ x. opened_of R d (nat_lt n inner) n ++ (ended_of R d first (behind_of R d n) n ++ x)) (enough marks R first end (end - n - 1) (end - behind_of R d n) inner (behind_of R d n) (omega (arith, l)) (omega (arith, l)))

-- where elements end nothing is written

silent-if : (f : Flow) (b : Bool) (d : Display) (items : List Item) → written (after_item f (an_end d)) items ≡ [] → written f (if b then an_end d ∷ items else []) ≡ []
silent-if f true d items e = e
silent-if f false d items e = refl

outside-silent : (f : Flow) (R : List Row) (first next : ℕ) (ns : List ℕ) → written f (ended_outside R first next ns) ≡ []
outside-silent f R first next [] = refl
outside-silent f R first next (n ∷ ns) =
    silent-if f (nat_le first n && ends_at R n next) (box_at R n) (ended_outside R first next ns) (outside-silent (after_item f (an_end (box_at R n))) R first next ns)

ended-silent : (f : Flow) (R : List Row) (d : Display) (first next n : ℕ) → written f (ended_of R d first next n) ≡ []
ended-silent f R d first next n =
    silent-if f (ends_at R n next) d (ended_outside R first next (ancestors_at R n)) (outside-silent (after_item f (an_end d)) R first next (ancestors_at R n))

-- what is written of a row and of those behind it
row-written : (f g h : Flow) (R : List Row) (d : Display) (k : Bool) (first next n : ℕ) (rest : List Item) →
    g ≡ after_items f (opened_of R d k n) → h ≡ after_items g (ended_of R d first next n) →
    written f (opened_of R d k n ++ (ended_of R d first next n ++ rest)) ≡ written f (opened_of R d k n) ++ written h rest
row-written f g h R d k first next n rest e i =
    written-append f (opened_of R d k n) (ended_of R d first next n ++ rest)
    ∙ ap (λ (v : Flow). written f (opened_of R d k n) ++ written v (ended_of R d first next n ++ rest)) (sym e)
    ∙ ap (λ v. written f (opened_of R d k n) ++ v)
    (written-append g (ended_of R d first next n) rest
    ∙ ap (λ v. v ++ written (after_items g (ended_of R d first next n)) rest) (ended-silent g R d first next n)
    ∙ ap (λ (v : Flow). written v rest) (sym i))

items-again : (marks : List Bool) (R : List Row) (first end kept n : ℕ) (d : Display) (inner next : ℕ) → n < end → d ≡ display_at marks R n → inner ≡ kept_of R d kept n → next ≡ behind_of R d n →
    items_from marks R first end kept n ≡ opened_of R d (nat_lt n inner) n ++ (ended_of R d first next n ++ items_from marks R first end inner next)
items-again marks R first end kept n d inner next h ed ei en =
    items-more marks R first end kept n h
    ∙ ap (λ (v : Display). opened_of R v (nat_lt n (kept_of R v kept n)) n ++ (ended_of R v first (behind_of R v n) n ++ items_from marks R first end (kept_of R v kept n) (behind_of R v n))) (sym ed)
    ∙ ap (λ (v : ℕ). opened_of R d (nat_lt n v) n ++ (ended_of R d first (behind_of R d n) n ++ items_from marks R first end v (behind_of R d n))) (sym ei)
    ∙ ap (λ (v : ℕ). opened_of R d (nat_lt n inner) n ++ (ended_of R d first v n ++ items_from marks R first end inner v)) (sym en)

pub row-step : (marks : List Bool) (R : List Row) (first end kept n : ℕ) (f g h : Flow) (d : Display) (inner next : ℕ) → n < end → d ≡ display_at marks R n → inner ≡ kept_of R d kept n → next ≡ behind_of R d n →
    g ≡ after_items f (opened_of R d (nat_lt n inner) n) → h ≡ after_items g (ended_of R d first next n) →
    written f (items_from marks R first end kept n) ≡ written f (opened_of R d (nat_lt n inner) n) ++ written h (items_from marks R first end inner next)
row-step marks R first end kept n f g h d inner next l ed ei en eg eh =
    ap (written f) (items-again marks R first end kept n d inner next l ed ei en)
    ∙ row-written f g h R d (nat_lt n inner) first next n (items_from marks R first end inner next) eg eh
