use Rattle.std.proofs.Common.{refl, sym, ◌∙◌, length, ◌-◌, ◌≡◌, ap, List, ℕ, length-drop, drop, take, arith}
use Rattle.std.proofs.lemmas.List.{length-take-le}
use Rattle.tl_tree.proofs.SaidTags.{page-bytes}
use Rattle.tl_tree.specs.Inner.Said.{piece_at}
use Rattle.tl_tree.proofs.said.text.Goals as goal

pub returns-then-is_plain-clause-characters : goal.returns-then-is_plain-clause-characters
returns-then-is_plain-clause-characters c =
    let s = c.args.store.now in
    let page : List ℕ = s.page.now in
    let start : ℕ = c.args.start in
    let end : ℕ = c.args.end in
    let bytes : List ℕ = piece_at page start end in
    let order = c.requires.order in
    let within = c.requires.within in
    let rest = length-drop start page in
    let many : length bytes ≡ end - start = length-take-le (end - start) (drop start page) (omega arith) in
    page-bytes s start bytes (record { start = start; len = end - start }) refl (sym many) (omega arith) (ap (λ n. take n (drop start page)) many)
    ∙ sym (c.if-is_plain.ensures refl)
