-- Trees of ASCII pieces that are misread.
use Rattle.std.proofs.Common.{◌≡◌, ◌≢◌, ℕ, Bool, true, ◌&&◌, List, [], ◌∷◌, ◌++◌, Option, Some, None, map, refl, ap, ap₂, sym, ◌∙◌, bytes_eq, true≢false, false}
use Rattle.std.specs.Prelude.{option_map}
use Rattle.std.specs.Str.Lossy.{utf8_lossy}
use Rattle.std.proofs.lemmas.Bool.{and_parts}
use Rattle.std.proofs.lemmas.Cmp.{nat_list_eq_equiv}
use Rattle.tl_spec.specs.Lex.Attribute.{Pair}
use Rattle.tl_spec.specs.Lex.AttributeList.{PlainAttributes}
use Rattle.tl_spec.specs.Lex.Token.{tokens}
use Rattle.tl_spec.specs.Tree.Forest.{Forest, none, text, comment, tag, PlainTag, forest, plain}
use Rattle.tl_spec.specs.Print.Normal.{lossy, lossy_attributes, lossy_pair, tidy}
use Rattle.tl_spec.specs.Print.Misread.{IsMisread}
use Rattle.tl_spec.proofs.Print.Ascii.{are_ascii, ascii_pairs, ascii_trees, ascii_value, lossy-ascii, print-ascii, raw_print}

abbrev pub ascii_attributes : PlainAttributes → Bool
ascii_attributes a = ascii_pairs a.others && ascii_value a.id && ascii_value a.class

-- each piece of the trees, where attributes stand as they are held
abbrev pub ascii_pieces : Forest PlainTag → Bool
ascii_pieces none = true
ascii_pieces (text bytes more) = are_ascii bytes && ascii_pieces more
ascii_pieces (comment bytes more) = are_ascii bytes && ascii_pieces more
ascii_pieces (tag own children more) = are_ascii own.name && ascii_attributes own.attributes && ascii_pieces children && ascii_pieces more

value-same : (v : Option (List ℕ)) → ascii_value v ≡ true → option_map utf8_lossy v ≡ v
value-same None h = refl
value-same (Some v) h = ap (λ s. Some s) (lossy-ascii v h)

pairs-same : (ps : List Pair) → ascii_pairs ps ≡ true → map lossy_pair ps ≡ ps
pairs-same [] h = refl
pairs-same (p ∷ ps) h =
    let a = and_parts _ _ h in
    let b = and_parts _ _ a.0 in
    let key = lossy-ascii p.0 b.0 in
    let val = value-same p.1 b.1 in
    let later = pairs-same ps a.1 in
    λ i. (key i, val i) ∷ later i

attributes-same : (a : PlainAttributes) → ascii_attributes a ≡ true → lossy_attributes a ≡ a
attributes-same a h =
    let p = and_parts _ _ h in
    let q = and_parts _ _ p.0 in
    let others = pairs-same a.others q.0 in
    let id = value-same a.id q.1 in
    let class = value-same a.class p.1 in
    λ i. record { others = others i; id = id i; class = class i }

lossy-same : (f : Forest PlainTag) → ascii_pieces f ≡ true → lossy f ≡ f
lossy-same none h = refl
lossy-same (text bytes more) h = let a = and_parts _ _ h in ap₂ (λ b f. text b f) (lossy-ascii bytes a.0) (lossy-same more a.1)
lossy-same (comment bytes more) h = let a = and_parts _ _ h in ap₂ (λ b f. comment b f) (lossy-ascii bytes a.0) (lossy-same more a.1)
lossy-same (tag own children more) h =
    let a = and_parts _ _ h in
    let b = and_parts _ _ a.0 in
    let c = and_parts _ _ b.0 in
    let name = lossy-ascii own.name c.0 in
    let attributes = attributes-same own.attributes c.1 in
    let inner = lossy-same children b.1 in
    let later = lossy-same more a.1 in
    λ i. tag (record { name = name i; attributes = attributes i }) (inner i) (later i)

-- a spelling that tells trees apart

abbrev spelled_value : Option (List ℕ) → List ℕ
spelled_value None = 0 ∷ []
spelled_value (Some v) = 1 ∷ v

abbrev spelled_pairs : List Pair → List ℕ
spelled_pairs [] = []
spelled_pairs (p ∷ ps) = 2 ∷ p.0 ++ spelled_value p.1 ++ spelled_pairs ps

abbrev spelled_attributes : PlainAttributes → List ℕ
spelled_attributes a = spelled_pairs a.others ++ 3 ∷ spelled_value a.id ++ spelled_value a.class

abbrev pub spelled_trees : Forest PlainTag → List ℕ
spelled_trees none = []
spelled_trees (text bytes more) = 4 ∷ bytes ++ spelled_trees more
spelled_trees (comment bytes more) = 5 ∷ bytes ++ spelled_trees more
spelled_trees (tag own children more) = 6 ∷ own.name ++ spelled_attributes own.attributes ++ spelled_trees children ++ 7 ∷ spelled_trees more

pub misread : (f : Forest PlainTag) (s : List ℕ) (g : Forest PlainTag) → (ascii_trees f && ascii_pieces f) ≡ true
    → raw_print f ≡ s → plain (forest (tokens s)) ≡ g → bytes_eq (spelled_trees g) (spelled_trees (tidy f)) ≡ false → IsMisread f s g
misread f s g h prints reads differ =
    let a = and_parts _ _ h in
    record { prints = print-ascii f a.0 ∙ prints; reads = reads; otherwise = λ e. apart (e ∙ ap tidy (lossy-same f a.1)) }
  where
    apart : g ≢ tidy f
    apart e = true≢false (sym (nat_list_eq_equiv.refl (spelled_trees (tidy f))) ∙ sym (ap (λ t. bytes_eq (spelled_trees t) (spelled_trees (tidy f))) e) ∙ differ)
