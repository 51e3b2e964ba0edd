use Rattle.std.proofs.Common.{IsTrue, ap, arith, length, length-append, refl, subst, sym, true, ◌+◌, ◌++◌, ◌∙◌, ◌≡◌}
use Rattle.std.proofs.lemmas.Bool.{and_parts}
use Rattle.std.specs.List.{list_all}
use Rattle.tl_tree.proofs.Settles.{copied-bytes, copied-within, flats-again, grown-bytes, one-piece, rows-more}
use Rattle.tl_tree.proofs.Within.{span-more}
use Rattle.tl_tree.specs.Inner.Settling.{text_of_pieces}
use Rattle.tl_tree.specs.Inner.Store.{is_span}
use Rattle.tl_tree.proofs.settling.Settling.whole.Goals as goal

pub returns-then-len-eq1 : goal.returns-then-len-eq1
returns-then-len-eq1 c =
    let g = c.args.self.now in
    let s = g.store in
    let piece = c.index.result.now in
    let one = one-piece g.pieces.items piece (let h = c.len.ensures in let k = c.if-len-eq1.true in omega (arith, h, k)) c.index.ensures in
    let within = (and_parts (is_span s piece) true (subst (λ v. IsTrue (list_all (is_span s) v)) one c.requires.sound.pieces)).0 in
    record {
      sound = c.requires.sound;
      store = refl;
      within = span-more (length s.page.now) (length s.side.items) (length s.side.items + length g.copied.items) piece (omega arith) within;
      bytes = grown-bytes s g.copied.items piece within ∙ ap (text_of_pieces s) (sym one);
      rows = refl;
      pieces = refl;
      source = refl;
      stack = refl;
    }

pub returns : goal.returns
returns c =
    let g = c.args.self.now in
    let s = g.store in
    let text = text_of_pieces s g.pieces.items in
    let all : c.copy.new.copied.items ≡ g.copied.items ++ text = c.in_ok-copy.ensures.copied ∙ ap (λ v. g.copied.items ++ text_of_pieces s v) c.as_slice.ensures.value in
    let many = ap length all ∙ length-append g.copied.items text in
    let a = c.len-2.ensures in
    let b = c.len-3.ensures in
    let d = c.len-4.ensures in
    let e = c.len-5.ensures in
    let short = c.in_ok-copy.ensures.short in
    record {
      sound = record {
        short = short;
        few = c.requires.sound.few;
        rows = rows-more s g.copied.items text c.copy.new.copied.items g.rows.items all c.requires.sound.rows;
        pieces = c.requires.sound.pieces;
        stack = c.requires.sound.stack;
      };
      store = refl;
      within = copied-within (length s.page.now) (length s.side.items) (length g.copied.items) _ _ (omega (arith, a, b)) (length c.copy.new.copied.items) (omega (arith, a, b, d, e, many));
      bytes = copied-bytes s g.copied.items text c.copy.new.copied.items _ _ all (omega (arith, a, b)) (omega (arith, a, b, d, e, many));
      rows = flats-again s g.copied.items text c.copy.new.copied.items g.rows.items all c.requires.sound.rows;
      pieces = refl;
      source = refl;
      stack = refl;
    }
