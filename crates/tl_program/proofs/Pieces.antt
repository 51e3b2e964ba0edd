-- What edits leave of the nodes of a table and of their pieces.
use Rattle.std.proofs.Common.{◌≡◌, ◌≢◌, ℕ, zero, suc, ◌-◌, Bool, true, false, if◌then◌else◌, nat_lt, List, [], ◌∷◌, length, take, slice_set, slice_index_or, position, Option, Some, None, Result, Ok, Err, IfSome, refl, sym, ap, ◌∙◌, subst}
use Rattle.std.specs.Prelude.{IsTrue}
use Rattle.std.specs.List.{AllByRecursion, slice_get, swap_remove}
use Rattle.std.specs.Option.{option_map_or}
use Rattle.std.specs.Map.{keys_of}
use Rattle.tl_bytes.specs.Held.{Kept, as_owned}
use Rattle.tl_bytes.specs.Keys.{same_list}
use Rattle.tl_spec.specs.Tree.Inline.{InlineMap, room, with_entry, with_value, without_key, with_last}
use Rattle.tl_spec.specs.Lex.AttributeList.{Attributes, is_id, is_class, set_at}
use Rattle.tl_spec.specs.Tree.Document.{Handles}
use Rattle.tl_spec.specs.Edit.{Change, Names, Texts, Comments, Sets, Flags, Unsets, Bares, Pushes, Pulls, Roots, Refusal, no_node, not_tag, no_place, map_ok, without_handle}
use Rattle.tl.specs.Inner.TableLends.{with_node}
use Rattle.tl.specs.View.{HTMLTag, HTMLNode, HTMLTable}
use Rattle.tl.specs.declared.parser.tag.node.NodeOf.TheVariants.{Tag, Raw, Comment}
use Rattle.tl_program.specs.TableEdit.{with_attribute, without_attribute, without_value, of_tag, of_node, at_node, edited_table, table_after}
use Rattle.tl_program.specs.Pieces.{node_of, Passes, PairPasses, AttributesPass, NodePasses}
use Rattle.tl_program.proofs.Tables.{apart, next-ok}

-- what holds of all items holds of those of a list that is made of them
module _ {X : Type 0} (P : X → Type 0) where
  All-taken : (n : ℕ) (xs : List X) → AllByRecursion P xs → AllByRecursion P (take n xs)
  All-taken zero xs h = tt
  All-taken (suc n) [] h = tt
  All-taken (suc n) (x ∷ xs) h = (h.0, All-taken n xs h.1)

  All-put : (xs : List X) (i : ℕ) (x : X) → P x → AllByRecursion P xs → AllByRecursion P (slice_set xs i x)
  All-put [] i x p h = tt
  All-put (y ∷ ys) zero x p h = (p, h.1)
  All-put (y ∷ ys) (suc i) x p h = (h.0, All-put ys i x p h.1)

  of_index : (xs : List X) (i : ℕ) (d : X) → P d → AllByRecursion P xs → P (slice_index_or xs i d)
  of_index [] i d p h = p
  of_index (x ∷ xs) zero d p h = h.0
  of_index (x ∷ xs) (suc i) d p h = of_index xs i d p h.1

  All-swap_remove : (xs : List X) (i : ℕ) (d : X) → P d → AllByRecursion P xs → AllByRecursion P (swap_remove xs i d)
  All-swap_remove xs i d p h =
      All-taken (length xs - 1) (slice_set xs i (slice_index_or xs (length xs - 1) d)) (All-put xs i (slice_index_or xs (length xs - 1) d) (of_index xs (length xs - 1) d p h) h)

-- attributes
module _ (test : Kept → Bool) where
  abbrev Each : List (Kept × Option Kept) → Type 0
  Each es = AllByRecursion (PairPasses test) es

  -- what the words for maps make of a list of pairs
  abbrev map_of : List (Kept × Option Kept) → InlineMap Kept (Option Kept)
  map_of es = record { entries = es; on_heap = false }

  Each-with_entry : (es : List (Kept × Option Kept)) (k : Kept) (v : Option Kept) → Passes test k → IfSome v (Passes test) → Each es → Each (with_entry same_list room (map_of es) k v).entries
  Each-with_entry [] k v key value h = ((key, value), tt)
  Each-with_entry (e ∷ es) k v key value h = by (same_list k e.0) (Each-with_entry es k v key value h.1)
    where
      by : (b : Bool) → Each (with_entry same_list room (map_of es) k v).entries → Each (if b then (e.0, v) ∷ es else e ∷ (with_entry same_list room (map_of es) k v).entries)
      by true rest = ((h.0.0, value), h.1)
      by false rest = (h.0, rest)

  Each-with_value : (es : List (Kept × Option Kept)) (k : Kept) (v : Option Kept) → IfSome v (Passes test) → Each es → Each (with_value same_list (map_of es) k v).entries
  Each-with_value [] k v value h = tt
  Each-with_value (e ∷ es) k v value h = by (same_list k e.0) (Each-with_value es k v value h.1)
    where
      by : (b : Bool) → Each (with_value same_list (map_of es) k v).entries → Each (if b then (e.0, v) ∷ es else e ∷ (with_value same_list (map_of es) k v).entries)
      by true rest = ((h.0.0, value), h.1)
      by false rest = (h.0, rest)

  Each-without_key : (es : List (Kept × Option Kept)) (k : Kept) → Each es → Each (without_key same_list (map_of es) k).entries
  Each-without_key [] k h = tt
  Each-without_key (e ∷ es) k h = by (position (same_list k) (keys_of (e ∷ es)))
    where
      by : (r : Option ℕ) → Each (option_map_or (λ i. swap_remove (e ∷ es) i e) r (e ∷ es))
      by None = h
      by (Some i) = All-swap_remove (PairPasses test) (e ∷ es) i e h.0 h

  with_at-passes : (key : List ℕ) (v : Option Kept) (others : InlineMap Kept (Option Kept)) (a : Attributes Kept) → IfSome v (Passes test) → Each others.entries → AttributesPass test a
      → AttributesPass test (set_at key v others a)
  with_at-passes key v others a value pairs h = by (is_id key) (is_class key)
    where
      by : (b c : Bool) → AttributesPass test (if b then record a { id = v } else if c then record a { class = v } else record a { others = others })
      by true c = (h.0, value, h.2)
      by false true = (h.0, h.1, value)
      by false false = (pairs, h.1, h.2)

-- one edit of a node
module _ (t u : HTMLTable) (n : ℕ) (change : HTMLNode → Result HTMLNode Refusal) where
  -- the node that it makes
  of_node-ok : (o : Option HTMLNode) → slice_get t.nodes n ≡ o → of_node t n change o ≡ Ok u → (x y : HTMLNode) × (slice_get t.nodes n ≡ Some x) × (change x ≡ Ok y) × (with_node t n y ≡ u)
  of_node-ok None there h = absurd (apart no_node h)
  of_node-ok (Some x) there h = by (change x) refl h
    where
      by : (r : Result HTMLNode Refusal) → change x ≡ r → map_ok (with_node t n) r ≡ Ok u → (x y : HTMLNode) × (slice_get t.nodes n ≡ Some x) × (change x ≡ Ok y) × (with_node t n y ≡ u)
      by (Ok y) made is = let same : with_node t n y ≡ u = cc in (x, y, there, made, same)
      by (Err refusal) made is = absurd (apart refusal is)

-- a list with an item put in the place of another
module _ {X : Type 0} where
  other_item : (xs : List X) (n m : ℕ) (y : X) → n ≢ m → slice_get (slice_set xs n y) m ≡ slice_get xs m
  other_item [] n m y far = refl
  other_item (x ∷ xs) zero zero y far = absurd (far refl)
  other_item (x ∷ xs) zero (suc m) y far = refl
  other_item (x ∷ xs) (suc n) zero y far = refl
  other_item (x ∷ xs) (suc n) (suc m) y far = other_item xs n m y (λ same. far (ap suc same))

  put_item : (P : X → Type 0) (xs : List X) (n m : ℕ) (x y : X) → slice_get xs n ≡ Some x → (P x → P y) → IfSome (slice_get xs m) P → IfSome (slice_get (slice_set xs n y) m) P
  put_item P [] n m x y there keeps h = h
  put_item P (z ∷ xs) zero zero x y there keeps h = let same : z ≡ x = cc in keeps (subst P same h)
  put_item P (z ∷ xs) zero (suc m) x y there keeps h = h
  put_item P (z ∷ xs) (suc n) zero x y there keeps h = h
  put_item P (z ∷ xs) (suc n) (suc m) x y there keeps h = put_item P xs n m x y there keeps h

-- an edit of one node leaves the others
at_node-untouched : (t u : HTMLTable) (n m : ℕ) (change : HTMLNode → Result HTMLNode Refusal) → (Some n ≢ Some m) → at_node n change t ≡ Ok u → slice_get u.nodes m ≡ slice_get t.nodes m
at_node-untouched t u n m change far h =
    let made = of_node-ok t u n change (slice_get t.nodes n) refl h in
    ap (λ (v : HTMLTable). slice_get v.nodes m) (sym made.4) ∙ other_item t.nodes n m made.1 (λ same. far (ap (λ (k : ℕ). Some k) same))

top-untouched : (t u : HTMLTable) (i h : ℕ) (b : Bool) → (if b then Ok (record t { top = slice_set t.top i h }) else Err no_place) ≡ Ok u → u.nodes ≡ t.nodes
top-untouched t u i h true is = let same : record t { top = slice_set t.top i h } ≡ u = cc in ap (λ (v : HTMLTable). v.nodes) (sym same)
top-untouched t u i h false is = absurd (apart no_place is)

edited-untouched : (c : Change) (t u : HTMLTable) (m : ℕ) → node_of c ≢ Some m → edited_table c t ≡ Ok u → slice_get u.nodes m ≡ slice_get t.nodes m
edited-untouched (Names n name) t u m far h = at_node-untouched t u n m _ far h
edited-untouched (Texts n text) t u m far h = at_node-untouched t u n m (λ _. Ok (Raw (as_owned text))) far h
edited-untouched (Comments n text) t u m far h = at_node-untouched t u n m (λ _. Ok (Comment (as_owned text))) far h
edited-untouched (Sets n key value) t u m far h = at_node-untouched t u n m _ far h
edited-untouched (Flags n key) t u m far h = at_node-untouched t u n m _ far h
edited-untouched (Unsets n key) t u m far h = at_node-untouched t u n m _ far h
edited-untouched (Bares n key) t u m far h = at_node-untouched t u n m _ far h
edited-untouched (Pushes n child) t u m far h = at_node-untouched t u n m _ far h
edited-untouched (Pulls n i) t u m far h = at_node-untouched t u n m _ far h
edited-untouched (Roots i child) t u m far h = ap (λ (nodes : List HTMLNode). slice_get nodes m) (top-untouched t u i child (nat_lt i (length t.top)) h)

pub table_after-untouched : (cs : List Change) (t u : HTMLTable) (m : ℕ) → table_after cs t ≡ Ok u → AllByRecursion (λ c. node_of c ≢ Some m) cs → slice_get u.nodes m ≡ slice_get t.nodes m
table_after-untouched [] t u m h far = let same : u ≡ t = cc in ap (λ (v : HTMLTable). slice_get v.nodes m) same
table_after-untouched (c ∷ cs) t u m h far =
    let first = next-ok (table_after cs) (edited_table c t) u h in
    table_after-untouched cs first.0 u m first.2 far.1 ∙ edited-untouched c t first.0 m far.0 first.1

-- what all owned bytes pass and each piece of a node passes, each piece of what an edit makes of it passes
module _ (test : Kept → Bool) (owned_passes : (bytes : List ℕ) → IsTrue (test (as_owned bytes))) where
  abbrev Keeps : (HTMLNode → Result HTMLNode Refusal) → Type 0
  Keeps change = (x y : HTMLNode) → change x ≡ Ok y → NodePasses test x → NodePasses test y

  abbrev PassesAt : ℕ → HTMLTable → Type 0
  PassesAt m t = IfSome (slice_get t.nodes m) (NodePasses test)

  at_node-passes : (t u : HTMLTable) (n m : ℕ) (change : HTMLNode → Result HTMLNode Refusal) → Keeps change → at_node n change t ≡ Ok u → PassesAt m t → PassesAt m u
  at_node-passes t u n m change keeps is h =
      let made = of_node-ok t u n change (slice_get t.nodes n) refl is in
      subst (PassesAt m) made.4 (put_item (NodePasses test) t.nodes n m made.0 made.1 made.2 (keeps made.0 made.1 made.3) h)

  node-keeps : (node : HTMLNode) → NodePasses test node → Keeps (λ _. Ok node)
  node-keeps node passes x y is h = let made : node ≡ y = cc in subst (NodePasses test) made passes

  tag-keeps : (change : HTMLTag → HTMLTag) → ((own : HTMLTag) → NodePasses test (Tag own) → NodePasses test (Tag (change own))) → Keeps (of_tag (λ own. Ok (change own)))
  tag-keeps change passes (Tag own) y is h = let made : Tag (change own) ≡ y = cc in subst (NodePasses test) made (passes own h)
  tag-keeps change passes (Raw bytes) y is h = absurd (apart not_tag is)
  tag-keeps change passes (Comment bytes) y is h = absurd (apart not_tag is)

  children-keep : (i : ℕ) → Keeps (of_tag (λ own. map_ok (λ handles. record own { children = handles }) (without_handle own.children i)))
  children-keep i (Tag own) y is h = by (without_handle own.children i) is
    where
      by : (r : Result Handles Refusal) → map_ok Tag (map_ok (λ handles. record own { children = handles }) r) ≡ Ok y → NodePasses test y
      by (Ok handles) same = let made : Tag (record own { children = handles }) ≡ y = cc in subst (NodePasses test) made h
      by (Err refusal) same = absurd (apart refusal same)
  children-keep i (Raw bytes) y is h = absurd (apart not_tag is)
  children-keep i (Comment bytes) y is h = absurd (apart not_tag is)

  with_attribute-passes : (a : Attributes Kept) (key : List ℕ) (v : Option Kept) → IfSome v (Passes test) → AttributesPass test a → AttributesPass test (with_attribute a key v)
  with_attribute-passes a key v value h =
      with_at-passes test key v (with_entry same_list room a.others (as_owned key) v) a value (Each-with_entry test a.others.entries (as_owned key) v (owned_passes key) value h.0) h

  without_attribute-passes : (a : Attributes Kept) (key : List ℕ) → AttributesPass test a → AttributesPass test (without_attribute a key)
  without_attribute-passes a key h =
      with_at-passes test key None (without_key same_list a.others (as_owned key)) a tt (Each-without_key test a.others.entries (as_owned key) h.0) h

  without_value-passes : (a : Attributes Kept) (key : List ℕ) → AttributesPass test a → AttributesPass test (without_value a key)
  without_value-passes a key h =
      with_at-passes test key None (with_value same_list a.others (as_owned key) None) a tt (Each-with_value test a.others.entries (as_owned key) None tt h.0) h

  attributes-keep : (change : Attributes Kept → Attributes Kept) → ((a : Attributes Kept) → AttributesPass test a → AttributesPass test (change a))
      → Keeps (of_tag (λ own. Ok (record own { attributes = change own.attributes })))
  attributes-keep change passes = tag-keeps (λ own. record own { attributes = change own.attributes }) (λ own h. (h.0, passes own.attributes h.1, h.2))

  edited-passes : (c : Change) (t u : HTMLTable) (m : ℕ) → edited_table c t ≡ Ok u → PassesAt m t → PassesAt m u
  edited-passes (Names n name) t u m is h = at_node-passes t u n m _ (tag-keeps (λ own. record own { name = as_owned name }) (λ own h. (owned_passes name, h.1, h.2))) is h
  edited-passes (Texts n text) t u m is h = at_node-passes t u n m _ (node-keeps (Raw (as_owned text)) (owned_passes text)) is h
  edited-passes (Comments n text) t u m is h = at_node-passes t u n m _ (node-keeps (Comment (as_owned text)) (owned_passes text)) is h
  edited-passes (Sets n key value) t u m is h =
      at_node-passes t u n m _ (attributes-keep (λ a. with_attribute a key (Some (as_owned value))) (λ a. with_attribute-passes a key (Some (as_owned value)) (owned_passes value))) is h
  edited-passes (Flags n key) t u m is h = at_node-passes t u n m _ (attributes-keep (λ a. with_attribute a key None) (λ a. with_attribute-passes a key None tt)) is h
  edited-passes (Unsets n key) t u m is h = at_node-passes t u n m _ (attributes-keep (λ a. without_attribute a key) (λ a. without_attribute-passes a key)) is h
  edited-passes (Bares n key) t u m is h = at_node-passes t u n m _ (attributes-keep (λ a. without_value a key) (λ a. without_value-passes a key)) is h
  edited-passes (Pushes n child) t u m is h = at_node-passes t u n m _ (tag-keeps (λ own. record own { children = with_last room own.children child }) (λ own h. h)) is h
  edited-passes (Pulls n i) t u m is h = at_node-passes t u n m _ (children-keep i) is h
  edited-passes (Roots i child) t u m is h =
      subst (λ nodes. IfSome (slice_get nodes m) (NodePasses test)) (sym (top-untouched t u i child (nat_lt i (length t.top)) is)) h

  pub table_after-passes : (cs : List Change) (t u : HTMLTable) (m : ℕ) → table_after cs t ≡ Ok u → PassesAt m t → PassesAt m u
  table_after-passes [] t u m is h = let same : t ≡ u = cc in subst (PassesAt m) same h
  table_after-passes (c ∷ cs) t u m is h =
      let first = next-ok (table_after cs) (edited_table c t) u is in
      table_after-passes cs first.0 u m first.2 (edited-passes c t first.0 m first.1 h)
