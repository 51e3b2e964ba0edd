use Rattle.std.proofs.Common.{ap, length, ◌++◌, ◌∙◌, ◌≡◌, ◌∷◌, []}
use Rattle.std.proofs.lemmas.Result.{on_ok_weaker}
use Rattle.tl_tree.proofs.Goings.{turns-push}
use Rattle.tl_tree.proofs.Settles.{held-same}
use Rattle.tl_tree.specs.Inner.Gathering.{Gathered, flat, flushed, with_row}
use Rattle.tl_tree.specs.Inner.RowView.{held_in}
use Rattle.tl_tree.specs.Inner.Settling.{state_of, text_with}
use Rattle.tl_tree.specs.Inner.Store.{text_of}
use Rattle.tl_tree.proofs.settling.Settling.add.Goals as goal

pub returns : goal.returns
returns c =
    let old = c.args.self.now in
    let mid = c.flush.new.self in
    let t = c.in_ok-flush.ensures in
    let rows = flushed (state_of old) in
    let count : c.written.result ≡ length rows = c.written.ensures ∙ ap (λ (g : Gathered). length g.rows) t.state in
    let node : held_in mid.store (text_with mid.store mid.copied.items) c.args.held ≡ held_in old.store (text_of old.store) c.args.held =
    ap (λ s. held_in s (text_with s mid.copied.items) c.args.held) t.store ∙ held-same old.store mid.copied.items c.args.held c.requires.within in
    on_ok_weaker c.push.result (λ p. turns-push old mid c.push.new.self rows (with_row rows (held_in old.store (text_of old.store) c.args.held)) c.args.held c.written.result t p
    (ap (λ v. rows ++ flat v c.written.result ∷ []) node ∙ ap (λ n. rows ++ flat (held_in old.store (text_of old.store) c.args.held) n ∷ []) count)) c.push.ensures
