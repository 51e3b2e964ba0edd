use Rattle.std.proofs.Common.{encode_utf8, flat_map}
use Rattle.tl_encoding.specs.SingleByte.{of_index}
use Rattle.tl_encoding.proofs.Fronts.{of_single, run_is_ascii, steps_on}
use Rattle.tl_encoding.proofs.text.single_byte_text.Goals as goal

pub push_ascii-requires : goal.push_ascii-requires
push_ascii-requires c = rw (c.split_at.ensures.front, c.ascii_len.ensures.run) (run_is_ascii c.loop-rest.rest.now)

pub loop-rest-preserved-then-begins_ascii_run : goal.loop-rest-preserved-then-begins_ascii_run
loop-rest-preserved-then-begins_ascii_run c =
    steps_on (λ s. flat_map (λ b. encode_utf8 (of_index c.args.index.now b)) s) _ _ _ _ _ _ _ c.in_ok-push_ascii.ensures
    c.split_at.ensures.front c.split_at.ensures.back c.ascii_len.ensures.run (of_single c.args.index.now c.loop-rest.rest.now) c.loop-rest.invariant
