use Rattle.std.proofs.Common.{IsTrue, ap, refl, subst, sym, ◌∙◌}
use Rattle.std.specs.List.{list_all}
use Rattle.tl_tree.proofs.Settles.{all-first, all-last, pending-again, pending-merged}
use Rattle.tl_tree.specs.Inner.Gathering.{Gathered}
use Rattle.tl_tree.specs.Inner.Settling.{flats_of}
use Rattle.tl_tree.specs.Inner.Store.{is_span}
use Rattle.tl_tree.proofs.settling.Settling.add_piece.Goals as goal

pub returns-in-Some-beside : goal.returns-in-Some-beside
returns-in-Some-beside c =
    let s = c.args.self.now.store in
    let was = c.in-Some.ensures.items in
    let is = c.in_ok-push-2.ensures.items in
    let pieces = c.pop.new.self.items in
    let first = all-first (is_span s) pieces c.args.self.now.pieces.items c.in-Some.next was c.requires.sound.pieces in
    record {
      sound = record {
        short = c.requires.sound.short;
        few = c.requires.sound.few;
        rows = c.requires.sound.rows;
        pieces = all-last (is_span s) pieces c.push-in-Some-beside.new.self.items c.in-Some-beside.both is first c.in-Some-beside.ensures.0;
        stack = c.requires.sound.stack;
      };
      store = refl;
      state = ap (λ p. let r : Gathered = record { pending = p; rows = flats_of c.args.self.now } in r)
          (pending-merged s c.args.source c.args.self.now.source pieces c.args.self.now.pieces.items c.push-in-Some-beside.new.self.items c.args.piece c.in-Some.next c.in-Some-beside.both was is c.in-Some-beside.ensures.1);
      stack = refl;
    }

pub returns : goal.returns
returns c =
    let s = c.args.self.now.store in
    let was = c.in-Some.ensures.items in
    let is = c.in_ok-push-3.ensures.items in
    let last = c.in_ok-push-4.ensures.items in
    let pieces = c.pop.new.self.items in
    record {
      sound = record {
        short = c.requires.sound.short;
        few = c.requires.sound.few;
        rows = c.requires.sound.rows;
        pieces = all-last (is_span s) c.push-2.new.self.items c.push-3.new.self.items c.args.piece last
            (let same = is ∙ sym was in subst (λ v. IsTrue (list_all (is_span s) v)) (sym same) c.requires.sound.pieces) c.requires.within;
        stack = c.requires.sound.stack;
      };
      store = refl;
      state = ap (λ p. let r : Gathered = record { pending = p; rows = flats_of c.args.self.now } in r)
          (pending-again s c.args.source c.args.self.now.source pieces c.args.self.now.pieces.items c.push-2.new.self.items c.push-3.new.self.items c.args.piece c.in-Some.next was is last);
      stack = refl;
    }
