use Rattle.std.proofs.Common.{ap, refl}
use Rattle.tl_dom_spec.specs.Builder.{Builder}
use Rattle.tl_dom_spec.specs.HtmlTree.{is_little, page_start}
use Rattle.tl_html_spec.specs.HtmlTokenizer.{data_state, without_mark}
use Rattle.tl_html_tokens.specs.Tokens.{mark_len}
use Rattle.tl_html_tokens.specs.declared.mode.Mode.TheVariants as mode
use Rattle.tl_tree.proofs.ReadOn.{begins}
use Rattle.tl_tree.specs.Inner.Builders.{builder_of, flags_of, token_of}
use Rattle.tl_tree.specs.Inner.Reading.{left_of}
use Rattle.tl_tree.proofs.reader.Reader.new.Goals as goal
use Rattle.tl_tree.proofs.Sourced.{begun, first-place}
use Rattle.tl_tree.specs.Sources.{page_begin}

pub invariant_of-result : goal.invariant_of-result
unfolding token_of
invariant_of-result c = record { within = c.mark_len-at.ensures.within; same = c.in_ok-builder.ensures.page }

pub returns : goal.returns
unfolding left_of
returns c =
    let page = c.args.page.now in
    record {
      left = begins (page_start (flags_of c.args.flags)) (builder_of c.in_ok-builder.builder) data_state mode.Data (without_mark page) page c.mark_len-at.result
          c.in_ok-builder.ensures.start refl c.mark_len-at.ensures.rest;
      sources = begun (page_begin (flags_of c.args.flags) page) _ c.mark_len-at.ensures.bytes refl c.in_ok-builder.ensures.start refl
          (first-place c.mark_len-at.result (mark_len page) _ c.in_ok-sources.ensures c.mark_len-at.ensures.bytes);
      little = ap (λ (b : Builder). is_little b.excess) c.in_ok-builder.ensures.start;
      page = refl;
    }
