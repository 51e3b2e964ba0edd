use Rattle.std.proofs.Common.{◌≡◌, ◌∙◌, ◌&&◌, Bool, IsTrue, ap, arith, bytes_eq, false, length, refl, rules, sym, true}
use Rattle.std.proofs.lemmas.Bool.{false_from_ne_true}
use Rattle.std.proofs.lemmas.Slice.Eq.{bytes_eq-Decides}
use Rattle.tl_tree.specs.Asked.{has_no_space}
use Rattle.tl_tree.specs.Inner.Store.{attribute_of, bytes_of, is_span}
use Rattle.tl_tree.proofs.RunTexts.{bytes-length}
use Rattle.tl_tree.proofs.store.Store.is_plain_key.Goals as goal

other_key : (a : Bool) → (a && false) ≡ false
other_key true = refl
other_key false = refl

pub returns-then-entry-key : goal.returns-then-entry-key
returns-then-entry-key c =
    let s = c.args.self.now in
    let entry = c.args.entry in
    let key = c.args.key.now in
    let within : IsTrue (is_span s entry.key) = search rules in
    let len = bytes-length s entry.key within in
    let differs : bytes_eq (bytes_of s entry.key) key ≡ false =
    false_from_ne_true (bytes_eq (bytes_of s entry.key) key) (λ e. let same = ap length ((bytes_eq-Decides (bytes_of s entry.key) key).0 e) in omega arith) in
    sym (ap (λ b. has_no_space (attribute_of s entry).space && b) differs ∙ other_key (has_no_space (attribute_of s entry).space))
