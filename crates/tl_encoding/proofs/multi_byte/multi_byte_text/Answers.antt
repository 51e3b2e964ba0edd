use Rattle.std.proofs.Common.{◌≡◌, ◌∙◌, sym}
use Rattle.tl_encoding.specs.MultiByte.{multi_byte}
use Rattle.tl_encoding.specs.declared.multi_byte.Held.TheVariants.{Nothing}
use Rattle.tl_encoding.proofs.Fronts.{none_held, of_multi, run_is_ascii, steps_on}
use Rattle.tl_encoding.proofs.multi_byte.multi_byte_text.Goals as goal

pub push_ascii-requires : goal.push_ascii-requires
push_ascii-requires c = rw (c.split_at.ensures.front, c.ascii_len.ensures.run) (run_is_ascii c.loop-rest.rest.now)

pub loop-rest-preserved-then-is_ascii : goal.loop-rest-preserved-then-is_ascii
loop-rest-preserved-then-is_ascii c =
    let none : c.loop-rest.held ≡ Nothing = none_held c.loop-rest.held (sym c.count.ensures ∙ c.if-count-eq0.true) in
    rw none (steps_on (λ s. multi_byte c.args.name Nothing s) _ _ _ _ _ _ _ c.in_ok-push_ascii.ensures
    c.split_at.ensures.front c.split_at.ensures.back c.ascii_len.ensures.run (of_multi c.args.name c.loop-rest.rest.now) (rw none at c.loop-rest.invariant))
