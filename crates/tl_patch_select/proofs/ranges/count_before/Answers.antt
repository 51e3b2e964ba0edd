use Rattle.std.proofs.Common.{List, Some, ap, arith, get_or, leb, rules, slice_get, true, ◌<◌, ◌≡◌, ◌≤◌, ℕ}
use Rattle.std.proofs.lemmas.Bool.{ltb-false, ltb-true}
use Rattle.std.proofs.lemmas.List.Sorted.{IsPartitionPoint-from_clause, IsPartitionedBy-ltb}
use Rattle.std.proofs.lemmas.Option.{get_or_from_slice_get, slice_get_within}
use Rattle.tl_patch_select.specs.declared.ranges.Keyed.{Keyed}
use Rattle.tl_patch_select.proofs.ranges.count_before.Goals as goal
use lib.Dec.{ltb}

pub returns-clause-before : goal.returns-clause-before
returns-clause-before c = λ at one l e.
    let parted = IsPartitionedBy-ltb (λ (x : Keyed). x.key) _ c.args.key c.requires in
    let point = IsPartitionPoint-from_clause (λ (x : Keyed). ltb x.key c.args.key) _ _ c.partition_point.ensures.partitioned parted (λ a r q k. search rules) in
    let is : get_or c.args.all.now at one ≡ one = get_or_from_slice_get c.args.all.now at one one e in
    let less : (get_or c.args.all.now at one).key < c.args.key = ltb-true _ _ (point.0 at one (omega arith) l) in
    let same : (get_or c.args.all.now at one).key ≡ one.key = ap (λ (x : Keyed). x.key) is in
    omega (arith, less, same)

pub returns-clause-behind : goal.returns-clause-behind
returns-clause-behind c = λ at one l e.
    let parted = IsPartitionedBy-ltb (λ (x : Keyed). x.key) _ c.args.key c.requires in
    let point = IsPartitionPoint-from_clause (λ (x : Keyed). ltb x.key c.args.key) _ _ c.partition_point.ensures.partitioned parted (λ a r q k. search rules) in
    let is : get_or c.args.all.now at one ≡ one = get_or_from_slice_get c.args.all.now at one one e in
    let more : c.args.key ≤ (get_or c.args.all.now at one).key = ltb-false _ _ (point.1 at one l (slice_get_within c.args.all.now at one e)) in
    let same : (get_or c.args.all.now at one).key ≡ one.key = ap (λ (x : Keyed). x.key) is in
    omega (arith, more, same)
