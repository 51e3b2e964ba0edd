use Rattle.std.proofs.Common.{length, true, ◌≡◌, ◌-◌}
use Rattle.tl_dom_spec.specs.HtmlTree.{is_little}
use Rattle.tl_tree.specs.Inner.Builders.{builder_of}
use Rattle.tl_tree.specs.Inner.Reading.{left_of}
use Rattle.tl_tree.specs.Inner.Sourced.{IsSourced}
use Rattle.tl_tree.specs.Sources.{Reached}
use Rattle.tl_tree.proofs.reader.Reader.read_on.Given as goal

abbrev pub invariant-loop-self : goal.invariant-loop-self
invariant-loop-self l =
    record {
      left : left_of l.self ≡ left_of l.fn.self;
      sources : (begin : Reached) → IsSourced begin l.fn.self → IsSourced begin l.self;
      page : l.self.page.now ≡ l.fn.self.page.now;
      little : is_little (builder_of l.fn.self.builder).excess ≡ true → is_little (builder_of l.self.builder).excess ≡ true;
    }

abbrev pub decreases-loop-self : goal.decreases-loop-self
decreases-loop-self l = length l.self.page.now - l.self.at
