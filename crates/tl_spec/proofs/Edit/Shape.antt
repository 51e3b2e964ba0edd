-- Edits in order.
use Rattle.std.proofs.Common.{◌≡◌, ℕ, zero, suc, ◌+◌, Bool, true, false, nat_lt, if◌then◌else◌, List, [], ◌∷◌, ◌++◌, length, take, slice_set, Option, Some, None, option_map, Result, Ok, Err, refl, sym, ap, ◌∙◌, zero-add, subst}
use Rattle.std.proofs.Math.Nat.{suc-add}
use Rattle.std.proofs.Math.ListN.{length-set}
use Rattle.std.specs.List.{slice_get}
use Rattle.tl_spec.specs.Tree.Document.{Handles, TagNode, Node, Tag, Raw, Comment, Document}
use Rattle.tl_spec.specs.Edit.{Change, Refusal, no_node, not_tag, without_handle, edit_if_tag, edit_tag, apply_change, Edited, apply_changes, none_refused, refusal_at, shift_place, next, Names, Texts, Comments, Sets, Flags, Unsets, Bares, Pushes, Pulls, Roots, map_ok, edit_if_found, no_place}
use Rattle.tl_spec.specs.Edit.Shape.{shift_place_by, KeepsSource, KeepsShape}

-- where the later edits are done, they were done at the earlier place too
done-shift_place : (w : Edited) (e : Document) → shift_place w ≡ none_refused e → w ≡ none_refused e
done-shift_place w e h = λ t. record { document = ap (λ (x : Edited). x.document) h t; refused = none w.refused (ap (λ (x : Edited). x.refused) h) t }
  where
    none : (o : Option (ℕ × Refusal)) → option_map {U = ℕ × Refusal} (λ r. (suc r.0, r.1)) o ≡ None → o ≡ None
    none None is = refl
    none (Some r) is = cc

-- edits are done where the first is, and then the others
done-next : (later : Document → Edited) (d e : Document) (r : Result Document Refusal) → next later d r ≡ none_refused e → (f : Document) × (r ≡ Ok f) × (later f ≡ none_refused e)
done-next later d e (Ok f) h = (f, refl, done-shift_place (later f) e h)
done-next later d e (Err x) h = absurd (apart (0, x) (ap (λ (w : Edited). w.refused) h))
  where
    apart : (r : ℕ × Refusal) → Some r ≡ None → ⊥
    apart r same = cc

module _ (c : Change) (e : Document) where
  -- an edit that is refused
  pub apply_changes-refused : (cs : List Change) (d : Document) (i : ℕ) (refusal : Refusal) → apply_changes (take i cs) d ≡ none_refused e → slice_get cs i ≡ Some c → apply_change c e ≡ Err refusal → apply_changes cs d ≡ refusal_at i refusal e
  apply_changes-refused [] d i refusal before here refuses = cc
  apply_changes-refused (b ∷ cs) d zero refusal before here refuses =
      let first : b ≡ c = cc in
      let start : d ≡ e = ap (λ (w : Edited). w.document) before in
      (λ t. next (apply_changes cs) (start t) (apply_change (first t) (start t))) ∙ ap (next (apply_changes cs) e) refuses
  apply_changes-refused (b ∷ cs) d (suc i) refusal before here refuses =
      let first = done-next (apply_changes (take i cs)) d e (apply_change b d) before in
      ap (next (apply_changes cs) d) first.1 ∙ ap shift_place (apply_changes-refused cs first.0 i refusal first.2 here refuses)

apart : {A : Type 0} {x : A} (refusal : Refusal) → Err refusal ≡ Ok x → ⊥
apart refusal is = cc

later-zero : (w : Edited) → shift_place_by 0 w ≡ w
later-zero w = λ t. record { document = w.document; refused = same w.refused t }
  where
    same : (o : Option (ℕ × Refusal)) → option_map {U = ℕ × Refusal} (λ r. (0 + r.0, r.1)) o ≡ o
    same None = refl
    same (Some r) = ap (λ (n : ℕ). Some (n, r.1)) (zero-add r.0)

later-suc : (n : ℕ) (w : Edited) → shift_place (shift_place_by n w) ≡ shift_place_by (suc n) w
later-suc n w = λ t. record { document = w.document; refused = same w.refused t }
  where
    same : (o : Option (ℕ × Refusal)) → option_map {U = ℕ × Refusal} (λ r. (suc r.0, r.1)) (option_map {U = ℕ × Refusal} (λ r. (n + r.0, r.1)) o) ≡ option_map {U = ℕ × Refusal} (λ r. (suc n + r.0, r.1)) o
    same None = refl
    same (Some r) = ap (λ (m : ℕ). Some (m, r.1)) (sym (suc-add n r.0))

-- what later edits make after edits that were done
pub apply_changes-append : (cs ds : List Change) (d e : Document) → apply_changes cs d ≡ none_refused e → apply_changes (cs ++ ds) d ≡ shift_place_by (length cs) (apply_changes ds e)
apply_changes-append [] ds d e before = ap (apply_changes ds) (ap (λ (w : Edited). w.document) before) ∙ sym (later-zero (apply_changes ds e))
apply_changes-append (c ∷ cs) ds d e before =
    let first = done-next (apply_changes cs) d e (apply_change c d) before in
    ap (next (apply_changes (cs ++ ds)) d) first.1 ∙ ap shift_place (apply_changes-append cs ds first.0 e first.2) ∙ later-suc (length cs) (apply_changes ds e)

-- what comes after a refused edit is left out
pub apply_changes-left_out : (cs ds : List Change) (d : Document) (r : ℕ × Refusal) → (apply_changes cs d).refused ≡ Some r → apply_changes (cs ++ ds) d ≡ apply_changes cs d
apply_changes-left_out [] ds d r refuses = cc
apply_changes-left_out (c ∷ cs) ds d r refuses = by (apply_changes-left_out cs ds) (apply_change c d) refuses
  where
    earlier : (o : Option (ℕ × Refusal)) → option_map {U = ℕ × Refusal} (λ r. (suc r.0, r.1)) o ≡ Some r → (q : ℕ × Refusal) × (o ≡ Some q)
    earlier None is = cc
    earlier (Some q) is = (q, refl)

    by : ((f : Document) (q : ℕ × Refusal) → (apply_changes cs f).refused ≡ Some q → apply_changes (cs ++ ds) f ≡ apply_changes cs f) →
        (o : Result Document Refusal) → (next (apply_changes cs) d o).refused ≡ Some r → next (apply_changes (cs ++ ds)) d o ≡ next (apply_changes cs) d o
    by shift_place_by (Ok f) is = let q = earlier (apply_changes cs f).refused is in ap shift_place (shift_place_by f q.0 q.1)
    by shift_place_by (Err refusal) is = refl

-- an edit of a node that is not refused
source-same : (x : Node) → KeepsSource x x
source-same (Tag own) = (refl, refl)
source-same (Raw bytes) = tt
source-same (Comment bytes) = tt

no_item : (n : ℕ) (x : Node) → slice_get {X = Node} [] n ≡ Some x → ⊥
no_item n x is = cc

-- the nodes that stand
unmoved : (nodes : List Node) (n : ℕ) (x y : Node) → slice_get nodes n ≡ Some x → slice_get nodes n ≡ Some y → KeepsSource x y
unmoved nodes n x y old new = let same : x ≡ y = cc in subst (KeepsSource x) same (source-same x)

-- one node put in the place of another, where its source is kept
sources-set : (nodes : List Node) (n : ℕ) (node m : Node) → slice_get nodes n ≡ Some node → KeepsSource node m
    → (i : ℕ) (x y : Node) → slice_get nodes i ≡ Some x → slice_get (slice_set nodes n m) i ≡ Some y → KeepsSource x y
sources-set [] n node m there kept i x y old new = absurd (no_item i x old)
sources-set (z ∷ nodes) zero node m there kept zero x y old new =
    let first : node ≡ x = cc in
    let second : m ≡ y = cc in
    subst (λ v. KeepsSource v y) first (subst (KeepsSource node) second kept)
sources-set (z ∷ nodes) zero node m there kept (suc i) x y old new = unmoved (z ∷ nodes) (suc i) x y old new
sources-set (z ∷ nodes) (suc n) node m there kept zero x y old new = unmoved (z ∷ nodes) zero x y old new
sources-set (z ∷ nodes) (suc n) node m there kept (suc i) x y old new = sources-set nodes n node m there kept i x y old new

-- an edit of one node keeps its source
abbrev IsKept : (Node → Result Node Refusal) → Type 0
IsKept change = (x m : Node) → change x ≡ Ok m → KeepsSource x m

edit_if_tag-kept : (change : TagNode → TagNode) → ((own : TagNode) → ((change own).raw ≡ own.raw) × ((change own).start ≡ own.start)) → IsKept (edit_if_tag (λ own. Ok (change own)))
edit_if_tag-kept change same (Tag own) m is = let made : Tag (change own) ≡ m = cc in subst (KeepsSource (Tag own)) made (same own)
edit_if_tag-kept change same (Raw bytes) m is = absurd (apart not_tag is)
edit_if_tag-kept change same (Comment bytes) m is = absurd (apart not_tag is)

without_handle-kept : (i : ℕ) → IsKept (edit_if_tag (λ own. map_ok (λ handles. record own { children = handles }) (without_handle own.children i)))
without_handle-kept i (Tag own) m is = by (without_handle own.children i) is
  where
    by : (r : Result Handles Refusal) → map_ok Tag (map_ok (λ handles. record own { children = handles }) r) ≡ Ok m → KeepsSource (Tag own) m
    by (Ok handles) same = let made : Tag (record own { children = handles }) ≡ m = cc in subst (KeepsSource (Tag own)) made (refl, refl)
    by (Err refusal) same = absurd (apart refusal same)
without_handle-kept i (Raw bytes) m is = absurd (apart not_tag is)
without_handle-kept i (Comment bytes) m is = absurd (apart not_tag is)

text-kept : (text : List ℕ) → IsKept (λ _. Ok (Raw text))
text-kept text x m is = let made : Raw text ≡ m = cc in subst (KeepsSource x) made (by x)
  where
    by : (x : Node) → KeepsSource x (Raw text)
    by (Tag own) = tt
    by (Raw bytes) = tt
    by (Comment bytes) = tt

comment-kept : (text : List ℕ) → IsKept (λ _. Ok (Comment text))
comment-kept text x m is = let made : Comment text ≡ m = cc in subst (KeepsSource x) made (by x)
  where
    by : (x : Node) → KeepsSource x (Comment text)
    by (Tag own) = tt
    by (Raw bytes) = tt
    by (Comment bytes) = tt

edit_if_found-keeps : (d e : Document) (n : ℕ) (change : Node → Result Node Refusal) → IsKept change → (o : Option Node) → slice_get d.nodes n ≡ o → edit_if_found d n change o ≡ Ok e → KeepsShape d e
edit_if_found-keeps d e n change kept None there is = absurd (apart no_node is)
edit_if_found-keeps d e n change kept (Some node) there is = by (change node) refl is
  where
    by : (r : Result Node Refusal) → change node ≡ r → map_ok (λ m. record d { nodes = slice_set d.nodes n m }) r ≡ Ok e → KeepsShape d e
    by (Err refusal) made same = absurd (apart refusal same)
    by (Ok m) made same = let is_e : record d { nodes = slice_set d.nodes n m } ≡ e = cc in
        subst (KeepsShape d) is_e (record { nodes = length-set d.nodes n m; top = refl; sources = sources-set d.nodes n node m there (kept node m made); version = refl })

edit_if_tag-keeps : (d e : Document) (n : ℕ) (change : TagNode → TagNode) → ((own : TagNode) → ((change own).raw ≡ own.raw) × ((change own).start ≡ own.start)) → edit_tag n change d ≡ Ok e → KeepsShape d e
edit_if_tag-keeps d e n change same is = edit_if_found-keeps d e n (edit_if_tag (λ own. Ok (change own))) (edit_if_tag-kept change same) (slice_get d.nodes n) refl is

pub edited-keeps : (c : Change) (d e : Document) → apply_change c d ≡ Ok e → KeepsShape d e
edited-keeps (Names n name) d e is = edit_if_tag-keeps d e n _ (λ own. (refl, refl)) is
edited-keeps (Texts n text) d e is = edit_if_found-keeps d e n (λ _. Ok (Raw text)) (text-kept text) (slice_get d.nodes n) refl is
edited-keeps (Comments n text) d e is = edit_if_found-keeps d e n (λ _. Ok (Comment text)) (comment-kept text) (slice_get d.nodes n) refl is
edited-keeps (Sets n key value) d e is = edit_if_tag-keeps d e n _ (λ own. (refl, refl)) is
edited-keeps (Flags n key) d e is = edit_if_tag-keeps d e n _ (λ own. (refl, refl)) is
edited-keeps (Unsets n key) d e is = edit_if_tag-keeps d e n _ (λ own. (refl, refl)) is
edited-keeps (Bares n key) d e is = edit_if_tag-keeps d e n _ (λ own. (refl, refl)) is
edited-keeps (Pushes n h) d e is = edit_if_tag-keeps d e n _ (λ own. (refl, refl)) is
edited-keeps (Pulls n i) d e is = edit_if_found-keeps d e n _ (without_handle-kept i) (slice_get d.nodes n) refl is
edited-keeps (Roots i h) d e is = by (nat_lt i (length d.top)) is
  where
    by : (b : Bool) → (if b then Ok (record d { top = slice_set d.top i h }) else Err no_place) ≡ Ok e → KeepsShape d e
    by false same = absurd (apart no_place same)
    by true same = let made : record d { top = slice_set d.top i h } ≡ e = cc in
        subst (KeepsShape d) made (record { nodes = refl; top = length-set d.top i h; sources = unmoved d.nodes; version = refl })
