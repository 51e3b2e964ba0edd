use Rattle.std.proofs.Common.{◌∙◌, ◌++◌, ◌∷◌, [], ap, sym, subst, append-nil, IsPermutation}
use Rattle.std.proofs.lemmas.List.Sorted.{IsPermutation-refl}
use Rattle.indexmap.proofs.MapLemmas.{lookup_permutation}
use Rattle.tl_inline.proofs.Maps.{copied_one, has_key, has_value}
use Rattle.tl_inline.proofs.inline.hashmap.InlineHashMap.to_map.Goals as goal

pub loop-key-init : goal.loop-key-init
loop-key-init g c = (
  tt,
  tt,
  (
    [],
    c.into_iter-key-iterator.ensures.into_iter_gives ∙ c.iter-key-items.ensures.rest,
    rw c.new-map.ensures.empty (IsPermutation-refl []),
  ),
  c.new-map.ensures.unique,
)

pub loop-key-preserved-in_ok-insert : goal.loop-key-preserved-in_ok-insert
loop-key-preserved-in_ok-insert g c =
    let at = c.loop-key in
    let items = c.args.self.now.entries in
    let done = at.invariant.2.0 in
    let whole = at.invariant.2.1 in
    let k = c.in-Some.key.now in
    let v = c.in-Some.value.now in
    let rest = c.next.new.self in
    let step = c.in-Some.ensures.steps in
    let key = c.requires.keys k c.in_ok-clone.field-0 (has_key items done at.key-iterator rest k v whole step) c.in_ok-clone.ensures.cases in
    let value = c.requires.values v c.in_ok-clone-2.field-0 (has_value items done at.key-iterator rest k v whole step) c.in_ok-clone-2.ensures.cases in
    let put = c.in_ok-insert.ensures in
    let more = copied_one g.K.PartialEq.eq g.met.K.Eq.laws items done at.key-iterator rest k v c.in_ok-clone.field-0 c.in_ok-clone-2.field-0
    at.map c.insert.new.self c.in_ok-insert.field-0 c.iter-key-items.ensures.unique whole step at.invariant.2.2 at.invariant.3 key value put.old put.entries in
    (tt, tt, (done ++ (k, v) ∷ [], more.0, more.1), put.unique)

pub loop-key-preserved : goal.loop-key-preserved
loop-key-preserved g c =
    let at = c.loop-key in
    let items = c.args.self.now.entries in
    let done = at.invariant.2.0 in
    let whole = at.invariant.2.1 in
    let k = c.in-Some.key.now in
    let v = c.in-Some.value.now in
    let rest = c.next.new.self in
    let step = c.in-Some.ensures.steps in
    let key = c.requires.keys k c.in_ok-clone.field-0 (has_key items done at.key-iterator rest k v whole step) c.in_ok-clone.ensures.cases in
    let value = c.requires.values v c.in_ok-clone-2.field-0 (has_value items done at.key-iterator rest k v whole step) c.in_ok-clone-2.ensures.cases in
    let put = c.in_ok-insert.ensures in
    let more = copied_one g.K.PartialEq.eq g.met.K.Eq.laws items done at.key-iterator rest k v c.in_ok-clone.field-0 c.in_ok-clone-2.field-0
    at.map c.insert.new.self c.in_ok-insert.field-0 c.iter-key-items.ensures.unique whole step at.invariant.2.2 at.invariant.3 key value put.old put.entries in
    (tt, tt, (done ++ (k, v) ∷ [], more.0, more.1), put.unique)

pub returns-clause-pairs : goal.returns-clause-pairs
returns-clause-pairs g c =
    let at = c.loop-key in
    let done = at.invariant.2.0 in
    let all = sym (append-nil done) ∙ ap (λ l. done ++ l) (sym c.in-None.ensures.steps.0) ∙ at.invariant.2.1 in
    subst (λ l. IsPermutation l at.map.entries) all at.invariant.2.2

pub returns-clause-gets : goal.returns-clause-gets
returns-clause-gets g c =
    let at = c.loop-key in
    let done = at.invariant.2.0 in
    let all = sym (append-nil done) ∙ ap (λ l. done ++ l) (sym c.in-None.ensures.steps.0) ∙ at.invariant.2.1 in
    let moves = subst (λ l. IsPermutation l at.map.entries) all at.invariant.2.2 in
    let o = g.met.K.Eq.laws in
    λ k. lookup_permutation o c.args.self.now.entries at.map.entries moves at.invariant.3 (g.K.PartialEq.eq k) (o.congr k)
