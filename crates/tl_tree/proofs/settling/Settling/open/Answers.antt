use Rattle.std.proofs.Common.{IsTrue, refl, subst, sym}
use Rattle.std.proofs.lemmas.Bool.{and_from}
use Rattle.tl_tree.proofs.Goings.{goes-open}
use Rattle.tl_tree.proofs.Settles.{all-last}
use Rattle.tl_tree.specs.Inner.Settling.{opened_is_within}
use Rattle.tl_tree.specs.Inner.Store.{is_row, is_tag_number}
use Rattle.tl_tree.specs.declared.settling.Opened.TheVariants as opened
use Rattle.tl_tree.proofs.settling.Settling.open.Goals as goal

pub returns : goal.returns
returns c =
    let old = c.args.self.now in
    let mid = c.flush.new.self in
    let t = c.in_ok-flush.ensures in
    let s = mid.store in
    let own = opened.Element c.args.tag c.args.before c.written-behind.result in
    let within : IsTrue (opened_is_within s own) =
    subst (λ v. IsTrue (opened_is_within v own)) (sym t.store) (and_from (is_tag_number old.store c.args.tag) (is_row old.store c.args.before) c.requires.tag c.requires.before) in
    goes-open old mid _ c.args.tag c.args.before c.args.below c.written-behind.result
    (record {
      short = t.sound.short;
      few = t.sound.few;
      rows = t.sound.rows;
      pieces = t.sound.pieces;
      stack = all-last (opened_is_within s) mid.stack.items c.push.new.self.items own c.in_ok-push.ensures.items t.sound.stack within;
    })
    c.requires.below t refl refl c.in_ok-push.ensures.items c.written-behind.ensures
