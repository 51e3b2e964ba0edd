use Rattle.std.proofs.Common.{refl}
use Rattle.tl_tree.specs.Inner.Builders.{builder_of, token_of}
use Rattle.tl_tree.proofs.builder.Builder.set_doctype.Goals as goal

pub invariant_of-self : goal.invariant_of-self
invariant_of-self c =
    let k = c.args.self.now.known in
    record {
      known = record {
        numbered = k.numbered;
        listed = k.listed;
        own = k.own;
        around = k.around;
        said = k.said;
        typed = c.requires;
        tallied = k.tallied;
      };
    }

pub returns-clause-ok : goal.returns-clause-ok
unfolding builder_of
returns-clause-ok c = refl

pub returns-clause-page : goal.returns-clause-page
unfolding token_of
returns-clause-page c = refl

pub returns-clause-doctype : goal.returns-clause-doctype
unfolding token_of
returns-clause-doctype c = refl
