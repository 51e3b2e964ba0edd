use Rattle.std.proofs.Common.{IsTrue, ap, arith, bytes_eq, length, rules, sym}
use Rattle.std.proofs.lemmas.Bool.{false_from_ne_true}
use Rattle.std.proofs.lemmas.Slice.Eq.{bytes_eq-Decides}
use Rattle.tl_tree.specs.Inner.Store.{bytes_of, is_span}
use Rattle.tl_tree.proofs.RunTexts.{bytes-length}
use Rattle.tl_tree.proofs.said_attributes.is_of_key.Goals as goal

pub returns-then-entry-key : goal.returns-then-entry-key
returns-then-entry-key c =
    let s = c.args.store.now in
    let entry = c.args.entry in
    let key = c.args.key.now in
    let within : IsTrue (is_span s entry.key) = search rules in
    let len = bytes-length s entry.key within in
    sym (false_from_ne_true (bytes_eq (bytes_of s entry.key) key) (λ e. let same = ap length ((bytes_eq-Decides (bytes_of s entry.key) key).0 e) in omega arith))
