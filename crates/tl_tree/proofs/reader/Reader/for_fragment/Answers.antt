use Rattle.std.proofs.Common.{ap, arith, refl}
use Rattle.tl_dom_spec.specs.Builder.{Builder}
use Rattle.tl_dom_spec.specs.HtmlTree.{context_state, fragment_start, is_little}
use Rattle.tl_tree.proofs.ReadOn.{begins}
use Rattle.tl_tree.specs.Contexts.{context_of, tag_in}
use Rattle.tl_tree.specs.Inner.Builders.{builder_of, flags_of, token_of}
use Rattle.tl_tree.specs.Inner.Reading.{left_of}
use Rattle.tl_tree.proofs.reader.Reader.for_fragment.Goals as goal
use Rattle.tl_tree.proofs.Sourced.{begun}
use Rattle.tl_tree.specs.Sources.{fragment_begin}

pub invariant_of-result : goal.invariant_of-result
unfolding token_of
invariant_of-result c = record { within = omega arith; same = c.in_ok-builder.ensures.page }

pub returns : goal.returns
unfolding left_of
returns c =
    let text = c.args.text.now in
    let flags = flags_of c.args.flags in
    record {
      left = begins (fragment_start flags (context_of c.args.context)) (builder_of c.in_ok-builder.builder) (context_state flags (tag_in c.args.context)) c.mode.result text text 0
          c.in_ok-builder.ensures.start c.mode.ensures refl;
      sources = begun (fragment_begin flags (context_of c.args.context)) _ refl c.mode.ensures c.in_ok-builder.ensures.start refl
          c.in_ok-sources.ensures;
      little = ap (λ (b : Builder). is_little b.excess) c.in_ok-builder.ensures.start;
      page = refl;
    }
