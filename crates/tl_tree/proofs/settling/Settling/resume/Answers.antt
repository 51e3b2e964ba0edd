use Rattle.std.proofs.Common.{[], ap, refl, ◌++◌, ◌∙◌, ◌≡◌, ◌∷◌}
use Rattle.std.proofs.lemmas.Bool.{and_parts}
use Rattle.tl_tree.proofs.Goings.{goes-close, goes-row}
use Rattle.tl_tree.proofs.Settles.{all-first, all-own}
use Rattle.tl_tree.specs.Inner.Settling.{opened_is_within}
use Rattle.tl_tree.specs.Inner.Store.{is_row, is_tag_number}
use Rattle.tl_tree.specs.declared.settling.Opened.TheVariants as opened
use Rattle.tl_tree.proofs.settling.Settling.resume.Goals as goal

pub returns-in-Some-Row : goal.returns-in-Some-Row
returns-in-Some-Row c =
    let old = c.args.self.now in
    let s = old.store in
    let was : old.stack.items ≡ c.pop.new.self.items ++ opened.Row c.in-Some-Row.before ∷ [] = c.in-Some-Row.ensures.items ∙ ap (λ v. c.pop.new.self.items ++ v ∷ []) c.in-Some-Row.field-0-is in
    goes-row old _ c.in-Some-Row.before
    (record {
      short = c.requires.short;
      few = c.requires.few;
      rows = c.requires.rows;
      pieces = c.requires.pieces;
      stack = all-first (opened_is_within s) c.pop.new.self.items old.stack.items (opened.Row c.in-Some-Row.before) was c.requires.stack;
    })
    (all-own (opened_is_within s) c.pop.new.self.items old.stack.items (opened.Row c.in-Some-Row.before) was c.requires.stack)
    refl refl was

pub returns-in_ok-close-in-Some-Element : goal.returns-in_ok-close-in-Some-Element
returns-in_ok-close-in-Some-Element c =
    let old = c.args.self.now in
    let s = old.store in
    let own = opened.Element c.in-Some-Element.tag c.in-Some-Element.before c.in-Some-Element.behind in
    let was : old.stack.items ≡ c.pop.new.self.items ++ own ∷ [] = c.in-Some-Element.ensures.items ∙ ap (λ v. c.pop.new.self.items ++ v ∷ []) c.in-Some-Element.field-0-is in
    goes-close old (record old { stack = c.pop.new.self }) c.close.new.self c.in-Some-Element.tag c.in-Some-Element.before c.in-Some-Element.behind
    (and_parts (is_tag_number s c.in-Some-Element.tag) (is_row s c.in-Some-Element.before) (all-own (opened_is_within s) c.pop.new.self.items old.stack.items own was c.requires.stack)).1
    refl refl was c.in_ok-close-in-Some-Element.ensures
