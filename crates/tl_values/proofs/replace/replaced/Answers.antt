use Rattle.std.proofs.Common.{List, [], ap, arith, length, rules, subst, sym, ◌+◌, ◌-◌, ◌++◌, ◌∙◌, ◌≡◌, ℕ}
use Rattle.memchr.specs.Find.{matches}
use Rattle.tl_values.proofs.Places.{in-turn}
use Rattle.tl_values.specs.Inner.Places.{AreInTurn}
use Rattle.tl_values.specs.Values.{put_at}
use Rattle.tl_values.proofs.replace.replaced.Goals as goal

pub loop-place-init : goal.loop-place-init
loop-place-init c =
    let value : List ℕ = c.args.value.now in
    let sought : List ℕ = c.args.sought.now in
    let all : c.into_iter-place-iterator.result ≡ matches value sought 0 = search rules in
    let none : c.new-new.result.items ≡ [] = c.new-new.ensures.items in
    record {
      turn = subst (AreInTurn (length sought) value 0) (sym all) (in-turn value sought 0 0 (length value + 1 - 0) 0 (omega arith) (omega arith));
      whole = ap (λ s. s ++ put_at c.args.put.now (length sought) value 0 c.into_iter-place-iterator.result) none ∙ ap (put_at c.args.put.now (length sought) value 0) all;
    }
