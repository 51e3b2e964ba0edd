use Rattle.std.proofs.Common.{◌≡◌, length, map}
use Rattle.tl_dom_spec.specs.Builder.{a_character}
use Rattle.tl_dom_spec.specs.Dispatcher.{tokens_done}
use Rattle.tl_tree.specs.Inner.Builders.{builder_of, token_of}
use Rattle.tl_tree.specs.Inner.Store.{bytes_of}
use Rattle.tl_tree.proofs.builder.Builder.take_run.Given as goal

abbrev pub invariant-loop-self : goal.invariant-loop-self
invariant-loop-self l =
    (tokens_done (builder_of l.fn.self) (map a_character (bytes_of l.fn.self.path.store l.fn.text)) ≡ tokens_done (builder_of l.self) (map a_character (token_of l.self).text))
    × ((token_of l.self).page ≡ (token_of l.fn.self).page)

abbrev pub decreases-loop-self : goal.decreases-loop-self
decreases-loop-self l = length (token_of l.self).text
