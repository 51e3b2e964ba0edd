use Rattle.std.proofs.Common.{List, None, Some, ap, arith, length, min, string_bytes, sym, ℕ, ◌+◌, ◌-◌, ◌<◌, ◌∙◌, ◌≡◌, ◌≤◌}
use Rattle.std.specs.BTreeMap.{btree_map_len}
use Rattle.tl_values.specs.Names.{free_number, numbered}
use Rattle.tl_values.proofs.Kept.{kept_both, none_kept, none_made, one_made}
use Rattle.tl_values.proofs.names.Names.take_numbered.Goals as goal

-- the search begins behind the last number
from : (last most len result : ℕ) → result ≡ min (last + 1) 18446744073709551615 → last ≤ most + 1 → len ≡ most → len < 9223372036854775808 → result ≡ last + 1
from last most len result is bound same small = omega (arith, is, bound, same, small)

pub returns-in-None-clause-made : goal.returns-in-None-clause-made
returns-in-None-clause-made c = λ used k.
    let name : List ℕ = string_bytes c.args.name in
    let begin : c.saturating_add-from.result ≡ c.args.last + 1 =
    from c.args.last (length used) c.len-end.result c.saturating_add-from.result c.saturating_add-from.ensures (k.most name c.args.last c.requires) (c.len-end.ensures.len ∙ k.len) c.len-end.ensures.small in
    let end : c.len-end.result + 2 ≡ btree_map_len c.args.self.now.taken + 2 = ap (λ n. n + 2) c.len-end.ensures.len in
    let none : free_number used name (c.len-end.result + 2 - c.saturating_add-from.result) c.saturating_add-from.result ≡ None =
    ap (λ t. free_number used t (c.len-end.result + 2 - c.saturating_add-from.result) c.saturating_add-from.result) (sym c.as_str.ensures.value) ∙ sym (c.in_ok-number.ensures used k) ∙ c.in-None.is in
    sym (none_made c.args.self.now used name c.args.last c.saturating_add-from.result (c.len-end.result + 2) k c.requires end begin none)

pub returns-in-None-clause-kept : goal.returns-in-None-clause-kept
returns-in-None-clause-kept c = λ used k.
    let name : List ℕ = string_bytes c.args.name in
    let begin : c.saturating_add-from.result ≡ c.args.last + 1 =
    from c.args.last (length used) c.len-end.result c.saturating_add-from.result c.saturating_add-from.ensures (k.most name c.args.last c.requires) (c.len-end.ensures.len ∙ k.len) c.len-end.ensures.small in
    let end : c.len-end.result + 2 ≡ btree_map_len c.args.self.now.taken + 2 = ap (λ n. n + 2) c.len-end.ensures.len in
    let none : free_number used name (c.len-end.result + 2 - c.saturating_add-from.result) c.saturating_add-from.result ≡ None =
    ap (λ t. free_number used t (c.len-end.result + 2 - c.saturating_add-from.result) c.saturating_add-from.result) (sym c.as_str.ensures.value) ∙ sym (c.in_ok-number.ensures used k) ∙ c.in-None.is in
    none_kept c.args.self.now used name c.args.last c.saturating_add-from.result (c.len-end.result + 2) k c.requires end begin none

pub returns-clause-made : goal.returns-clause-made
returns-clause-made c = λ used k.
    let name : List ℕ = string_bytes c.args.name in
    let begin : c.saturating_add-from.result ≡ c.args.last + 1 =
    from c.args.last (length used) c.len-end.result c.saturating_add-from.result c.saturating_add-from.ensures (k.most name c.args.last c.requires) (c.len-end.ensures.len ∙ k.len) c.len-end.ensures.small in
    let end : c.len-end.result + 2 ≡ btree_map_len c.args.self.now.taken + 2 = ap (λ n. n + 2) c.len-end.ensures.len in
    let some : free_number used name (c.len-end.result + 2 - c.saturating_add-from.result) c.saturating_add-from.result ≡ Some c.in-Some.number =
    ap (λ t. free_number used t (c.len-end.result + 2 - c.saturating_add-from.result) c.saturating_add-from.result) (sym c.as_str.ensures.value) ∙ sym (c.in_ok-number.ensures used k) ∙ c.in-Some.is in
    let made : string_bytes c.in_ok-made.made ≡ numbered name c.in-Some.number = c.in_ok-made.ensures ∙ ap (λ t. numbered t c.in-Some.number) c.as_str-2.ensures.value in
    sym (one_made c.args.self.now used name (string_bytes c.in_ok-made.made) c.args.last c.saturating_add-from.result (c.len-end.result + 2) c.in-Some.number k c.requires end begin some made)

pub returns-clause-kept : goal.returns-clause-kept
returns-clause-kept c = λ used k.
    let name : List ℕ = string_bytes c.args.name in
    let begin : c.saturating_add-from.result ≡ c.args.last + 1 =
    from c.args.last (length used) c.len-end.result c.saturating_add-from.result c.saturating_add-from.ensures (k.most name c.args.last c.requires) (c.len-end.ensures.len ∙ k.len) c.len-end.ensures.small in
    let end : c.len-end.result + 2 ≡ btree_map_len c.args.self.now.taken + 2 = ap (λ n. n + 2) c.len-end.ensures.len in
    let some : free_number used name (c.len-end.result + 2 - c.saturating_add-from.result) c.saturating_add-from.result ≡ Some c.in-Some.number =
    ap (λ t. free_number used t (c.len-end.result + 2 - c.saturating_add-from.result) c.saturating_add-from.result) (sym c.as_str.ensures.value) ∙ sym (c.in_ok-number.ensures used k) ∙ c.in-Some.is in
    let made : string_bytes c.in_ok-clone.field-0 ≡ numbered name c.in-Some.number =
    c.in_ok-clone.ensures.cases ∙ c.in_ok-made.ensures ∙ ap (λ t. numbered t c.in-Some.number) c.as_str-2.ensures.value in
    kept_both c.args.self.now c.put.new.self c.put-2.new.self used name (string_bytes c.in_ok-clone.field-0) c.args.last c.saturating_add-from.result (c.len-end.result + 2) c.in-Some.number
    k c.requires end begin some made c.in_ok-put.ensures.put c.in_ok-put.ensures.len c.in_ok-put-2.ensures.put c.in_ok-put-2.ensures.len
