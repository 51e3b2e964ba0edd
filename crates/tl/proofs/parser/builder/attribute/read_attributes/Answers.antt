use Rattle.std.proofs.Common.{◌≡◌, ℕ, ◌≤◌, List, Option, Some, length, drop, sym, subst, arith}
use Rattle.tl_spec.specs.Lex.Attribute.{Pair, next_attribute}
use Rattle.tl_spec.specs.Lex.AttributeList.{no_attributes, with_pair}
use Rattle.tl_lexer.specs.Span.{pair_at}
use Rattle.tl_lexer.proofs.Tags.{ArePut, put-none, put-more}
use Rattle.tl_attributes.specs.AttributesView.{plain}
use Rattle.tl.proofs.parser.builder.attribute.read_attributes.Goals as goal

pub loop-place-init : goal.loop-place-init
loop-place-init g c =
    let t = g.S.Source.text c.args.source.now in
    record {
      put = subst (λ a. ArePut with_pair t c.args.at c.args.at no_attributes a) (sym c.requires.empty) (put-none with_pair t c.args.at no_attributes);
      read = c.requires.read;
      order = omega arith;
      within = c.requires.within;
    }

pub loop-place-preserved : goal.loop-place-preserved
loop-place-preserved g c =
    let t = g.S.Source.text c.args.source.now in
    let is = c.as_bytes-text.ensures in
    let old = c.loop-place.invariant in
    let end = c.loop-place.end in
    let after = c.in-Some.after in
    let place = c.in-Some.place in
    let read : ◌≡◌ {A = Option (Pair × List ℕ)} (Some (pair_at t place, drop after t)) (next_attribute (drop end t)) =
    subst (λ (T : List ℕ). ◌≡◌ {A = Option (Pair × List ℕ)} (Some (pair_at T place, drop after T)) (next_attribute (drop end T))) is c.in-Some.ensures.read in
    record {
      put = subst (λ a. ArePut with_pair t c.args.at after no_attributes a) (sym c.in_ok-insert_at.ensures.pair)
          (put-more with_pair t c.args.at no_attributes end after place (plain c.loop-place.attributes) read old.put);
      read = c.in_ok-insert_at.ensures.read;
      order = omega (arith, old.order, c.in-Some.ensures.order);
      within = subst (λ (T : List ℕ). after ≤ length T) is c.in-Some.ensures.within;
    }
