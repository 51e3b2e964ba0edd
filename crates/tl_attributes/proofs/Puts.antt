-- What an insert makes of attributes, in the words of the definitions.
use Rattle.std.proofs.Common.{◌≡◌, ℕ, suc, Bool, true, false, cond, not, nat_lt, ◌||◌, ◌&&◌, ◌==◌, List, length, Option, is_some, Result, Ok, Err, OnOk, sym, ap, subst, ◌∙◌, arith}
use Rattle.std.specs.Prelude.{IfSome}
use Rattle.std.specs.List.{All}
use Rattle.std.specs.Str.{bytes_eq}
use Rattle.std.specs.Map.{lookup}
use Rattle.std.proofs.lemmas.Bool.Decides.{nat_tests}
use Rattle.std.proofs.lemmas.List.Elements.{All-from_recursion, recursion_from_All}
use Rattle.indexmap.specs.IndexMap.{insert_entry}
use Rattle.tl_spec.specs.Tree.Inline.{InlineMap, room, with_entry}
use Rattle.tl_spec.specs.Lex.Attribute.{Pair}
use Rattle.tl_spec.specs.Lex.AttributeList.{Attributes, set_at, with_pair}
use Rattle.tl_spec.specs.Edit.Attribute.{with_attribute}
use Rattle.tl_spec.proofs.Lex.ByKey.{choose_by_key-all}
use Rattle.tl_spec.proofs.Print.Images.{image-insert_entry, image-set_at}
use Rattle.tl_spec.proofs.Tree.Pairs.{all-insert_entry, length-insert_entry}
use Rattle.tl_bytes.specs.Held.{Held, Kept}
use Rattle.tl_bytes.specs.Keys.{same_list}
use Rattle.tl_attributes.specs.HeldAttributes.{AreRead, IsHeld, IsHeldPair}
use Rattle.tl_attributes.specs.AttributesView.{plain, bytes_view, entries_view, value_view}

-- an insert, by the bytes of the key
abbrev pub put_piece : Attributes Kept → Kept → Option Kept → Attributes Kept
put_piece a k v = with_attribute bytes_view same_list a k v

-- the pairs are held alike after an insert of such a pair
all_inserted : (held : Held) (es : List (Kept × Option Kept)) (k : Kept) (v : Option Kept) → IsHeld held k → IfSome v (IsHeld held) → All (IsHeldPair held) es
    → All (IsHeldPair held) (insert_entry same_list es k v)
all_inserted held es k v key value h =
    All-from_recursion (IsHeldPair held) (insert_entry same_list es k v)
    (all-insert_entry (IsHeldPair held) same_list es k v (λ e p. (p.0, value)) (key, value) (recursion_from_All (IsHeldPair held) es h))

-- a map lies on the heap exactly where it holds more than its room
flag_of : (f : Bool) (n : ℕ) (h : Bool) → h ≡ nat_lt 2 n → (h || (not f && (n == 2))) ≡ nat_lt 2 (cond f n (suc n))
flag_of true n true same = same
flag_of true n false same = same
flag_of false n h same = grind (arith, nat_tests)

flag : (k : Kept) (v : Option Kept) (m : InlineMap Kept (Option Kept)) → m.on_heap ≡ nat_lt room (length m.entries)
    → (with_entry same_list room m k v).on_heap ≡ nat_lt room (length (with_entry same_list room m k v).entries)
flag k v m same =
    flag_of (is_some (lookup (same_list k) m.entries)) (length m.entries) m.on_heap same ∙ ap (λ n. nat_lt room n) (sym (length-insert_entry same_list m.entries k v))

module _ (a : Attributes Kept) (k : Kept) (v : Option Kept) where
  -- what is shown after an insert is the definition's insert
  pub plain-put : plain (put_piece a k v) ≡ with_pair (plain a) (k.list, value_view v)
  plain-put =
      image-set_at bytes_view (λ (m : InlineMap Kept (Option Kept)). (entries_view m).entries) k.list v (with_entry same_list room a.others k v) a
      ∙ ap (λ (ps : List Pair). set_at k.list (value_view v) ps (plain a)) (image-insert_entry bytes_view value_view bytes_eq a.others.entries k v)

  pub read-put : (held : Held) → IsHeld held k → IfSome v (IsHeld held) → AreRead held a → AreRead held (put_piece a k v)
  read-put held key value h =
      choose_by_key-all (AreRead held) k.list _ _ _
      (λ _. record { heap = h.heap; pieces = record { others = h.pieces.others; id = value; class = h.pieces.class } })
      (λ _ _. record { heap = h.heap; pieces = record { others = h.pieces.others; id = h.pieces.id; class = value } })
      (λ _. record {
        heap = flag k v a.others h.heap;
        pieces = record { others = all_inserted held a.others.entries k v key value h.pieces.others; id = h.pieces.id; class = h.pieces.class };
      })

-- the same of an insert that may be refused
module _ {U E : Type 0} (old new : Attributes Kept) (k : Kept) (v : Option Kept) (p : Pair) where
  pub after-put : (r : Result U E) → OnOk r (new ≡ put_piece old k v) → k.list ≡ p.0 → value_view v ≡ p.1 → OnOk r (plain new ≡ with_pair (plain old) p)
  after-put (Ok x) is key value =
      ap plain is ∙ plain-put old k v ∙ (λ i. with_pair (plain old) (key i, value i))
  after-put (Err e) is key value = is

  pub after-read : (held : Held) (r : Result U E) → OnOk r (new ≡ put_piece old k v) → IsHeld held k → IfSome v (IsHeld held) → AreRead held old → OnOk r (AreRead held new)
  after-read held (Ok x) is key value h = subst (AreRead held) (sym is) (read-put old k v held key value h)
  after-read held (Err e) is key value h = is
