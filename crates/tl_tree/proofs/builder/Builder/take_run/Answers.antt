use Rattle.std.proofs.Common.{ap, arith, map, sym, ◌≡◌, ◌∙◌}
use Rattle.tl_dom_spec.specs.Builder.{a_character}
use Rattle.tl_dom_spec.specs.Dispatcher.{tokens_done}
use Rattle.tl_tree.proofs.RunTexts.{ok-then, said-length, said-none}
use Rattle.tl_tree.specs.Inner.Builders.{builder_of, token_of}
use Rattle.tl_tree.specs.Inner.Store.{bytes_of}
use Rattle.tl_tree.proofs.builder.Builder.take_run.Goals as goal

pub take_part-requires : goal.take_part-requires
take_part-requires c =
    let long = said-length c.loop-self.self in
    let some = c.loop-self-test.true in
    omega arith

pub returns : goal.returns
returns c =
    let b = c.loop-self.self in
    let end = c.loop-self-test.false in
    let none : b.text.len ≡ 0 = omega arith in
    record {
      ok = sym (c.loop-self.invariant.0 ∙ ap (λ own. tokens_done (builder_of b) (map a_character own)) (said-none b none));
      page = c.loop-self.invariant.1;
    }

pub take_whole-requires-clause-some : goal.take_whole-requires-clause-some
take_whole-requires-clause-some c =
    let long = said-length c.loop-self.self in
    let some = c.loop-self-test.true in
    omega arith

pub returns-then-is_at_rest : goal.returns-then-is_at_rest
returns-then-is_at_rest c =
    let b = c.loop-self.self in
    let start = c.args.self.now in
    record {
      ok =
          ok-then c.take_whole.result (builder_of c.take_whole.new.self)
          (tokens_done (builder_of b) (map a_character (token_of b).text))
          (tokens_done (builder_of start) (map a_character (bytes_of start.path.store c.args.text)))
          (sym c.loop-self.invariant.0) c.take_whole.ensures.ok;
      page = c.take_whole.ensures.page ∙ c.loop-self.invariant.1;
    }
