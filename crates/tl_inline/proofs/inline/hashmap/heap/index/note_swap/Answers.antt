use Rattle.std.proofs.Common.{◌≡◌, ◌∙◌, ◌-◌, Some, length, slice_get, arith, ap, sym}
use Rattle.std.specs.Map.{keys_of}
use Rattle.std.proofs.lemmas.Map.Entries.{length-keys_of}
use Rattle.tl_inline.specs.Digest.{digest_of}
use Rattle.tl_inline.specs.Places.{note_of}
use Rattle.tl_inline.proofs.PlacesLemmas.{allows_swapped, key_at, keys_swapped}
use Rattle.tl_inline.proofs.inline.hashmap.heap.index.note_swap.Goals as goal

pub returns : goal.returns
returns g c =
    let es = c.args.pairs.now in
    let gone = c.index-pairs-at.result in
    let last = c.index-pairs-pairs.result in
    let at_last : slice_get (keys_of es) (length (keys_of es) - 1) ≡ Some last.0 =
    ap (λ n. slice_get (keys_of es) (n - 1)) (length-keys_of es) ∙ key_at es (length es - 1) last c.index-pairs-pairs.is (omega (arith, c.requires.within)) in
    let digest = λ (p : g.row.K.Denot × g.row.V.Denot). digest_of (g.K.Hash.hash_input p.0) in
    let of_gone : c.digest_of.result ≡ digest_of (g.K.Hash.hash_input gone.0) = c.digest_of.ensures ∙ ap digest (sym c.index-pairs-at.is) in
    let of_last : c.digest_of-2.result ≡ digest_of (g.K.Hash.hash_input last.0) = c.digest_of-2.ensures ∙ ap digest (sym c.index-pairs-pairs.is) in
    λ p i k found.
    allows_swapped (λ q. digest_of (g.K.Hash.hash_input q)) (note_of c.args.places.now.entries) (note_of c.forget.new.places.entries)
    (note_of c.note_move.new.places.entries) (keys_of es) c.args.at gone.0 last.0 (key_at es c.args.at gone c.index-pairs-at.is c.requires.within)
    at_last c.requires.allowed (rw of_gone at c.forget.ensures) (rw of_last at c.note_move.ensures)
    p.0 i k (ap (λ l. slice_get l i) (sym (keys_swapped es c.args.at p c.requires.within)) ∙ found)
