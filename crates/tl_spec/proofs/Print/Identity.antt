-- A clean forest's print reads as the forest, normalised, and prints alike.
use Rattle.std.proofs.Common.{◌≡◌, ℕ, ◌≢◌, Bool, true, false, ◌||◌, List, [], ◌∷◌, ◌++◌, map, codes, Option, Some, None, option_map, IsUtf8, refl, ap, ap₂, sym, ◌∙◌, append_assoc, append-nil, subst, if◌then◌else◌, ◌==◌, not}
use Rattle.std.specs.Prelude.{⊤}
use Rattle.std.specs.List.{IsDistinct, list_all}
use Rattle.std.specs.Map.{keys_of}
use Rattle.std.specs.Str.{bytes_eq}
use Rattle.std.specs.Str.Lossy.{utf8_lossy}
use Rattle.std.proofs.lemmas.Bool.{false_from_ne_true, and_parts}
use Rattle.std.proofs.lemmas.Slice.Eq.{bytes_eq-Decides}
use Rattle.std.proofs.lemmas.Str.{utf8_lossy-IsUtf8, IsUtf8-append}
use Rattle.tl_spec.specs.Lex.Attribute.{Pair}
use Rattle.tl_spec.specs.Lex.AttributeList.{AreOthers, PlainAttributes, HasOwnKeys, pair_if_some, printed_pairs}
use Rattle.tl_spec.proofs.Print.Images.{image-pairs_in_order}
use Rattle.tl_spec.specs.Lex.ByteClass.{is_ident, is_name, is_printed_alone, is_void}
use Rattle.tl_spec.specs.Print.Clean.{AreCleanPairs, HasCommentForm, HaveOwnKeys, IsClean, IsCleanComment, IsCleanStart, IsCleanTag, IsCleanText, IsCleanValue, IsName}
use Rattle.tl_spec.specs.Tree.Forest.{Forest, PlainTag, comment, forest, none, plain, tag, text}
use Rattle.tl_spec.specs.Print.Normal.{ReadsAs, join_comment, join_text, lossy, lossy_attributes, lossy_pair, lossy_tag, norm, tidy}
use Rattle.tl_spec.specs.Print.{print, print_end, print_pairs, print_value}
use Rattle.tl_spec.specs.Lex.Token.{AreNoDoctypes, tokens}
use Rattle.tl_spec.proofs.Print.Again.{IsNormal, IsSomeText, forest_again, no_doctype_again, print_of}
use Rattle.tl_spec.proofs.Lex.Bytes.{AllPass-also, all_pass, passes}
use Rattle.tl_spec.proofs.Print.Lossy.{lossy-AllPass, lossy-IsUtf8, lossy-comment, lossy-ident, lossy-nil}
use Rattle.tl_spec.proofs.Lex.Names.{class-IsName, id-IsName, name-ident}
use Rattle.tl_spec.proofs.Print.Printed.{shown_pairs, shown_value}

-- tidying changes no print

shown-join_text : (t : List ℕ) (f : Forest PlainTag) (s : List ℕ) → print_of (join_text t f) s ≡ t ++ print_of f s
shown-join_text [] f s = refl
shown-join_text (b ∷ t) none s = refl
shown-join_text (b ∷ t) (text u f) s = append_assoc (b ∷ t) u (print_of f s)
shown-join_text (b ∷ t) (comment c more) s = refl
shown-join_text (b ∷ t) (tag own children more) s = refl

shown-join_comment : (c : List ℕ) (f : Forest PlainTag) (s : List ℕ) → print_of (join_comment c f) s ≡ c ++ print_of f s
shown-join_comment [] f s = refl
shown-join_comment (b ∷ c) f s = refl

shown-tidy : (f : Forest PlainTag) (s : List ℕ) → print_of (tidy f) s ≡ print_of f s
shown-tidy none s = refl
shown-tidy (text t more) s = shown-join_text t (tidy more) s ∙ ap (λ x. t ++ x) (shown-tidy more s)
shown-tidy (comment c more) s = shown-join_comment c (tidy more) s ∙ ap (λ x. c ++ x) (shown-tidy more s)
shown-tidy (tag own children more) s =
    let i = shown-tidy more s in
    let j = shown-tidy children (60 ∷ 47 ∷ (own.name ++ 62 ∷ print_of more s)) in
    let k : print_of (tidy children) (60 ∷ 47 ∷ (own.name ++ 62 ∷ print_of (tidy more) s)) ≡ print_of children (60 ∷ 47 ∷ (own.name ++ 62 ∷ print_of more s)) =
    ap (λ x. print_of (tidy children) (60 ∷ 47 ∷ (own.name ++ 62 ∷ x))) i ∙ j in
    ap₂ (λ x y. 60 ∷ (own.name ++ (shown_pairs (printed_pairs own.attributes) ++ 62 ∷ (if is_void own.name then x else y)))) i k

-- what tidying leaves is normal

list_all-append : (p : ℕ → Bool) (xs ys : List ℕ) → list_all p xs ≡ true → list_all p ys ≡ true → list_all p (xs ++ ys) ≡ true
list_all-append p [] ys h k = k
list_all-append p (x ∷ xs) ys h k = let a = and_parts (p x) (list_all p xs) h in rw (a.0) (list_all-append p xs ys a.1 k)

clean_text : (t : List ℕ) → IsSomeText t → IsCleanText t
clean_text [] h = absurd h
clean_text (b ∷ t) h = h

IsNormal-join_text : (t : List ℕ) (f : Forest PlainTag) → IsCleanText t → IsNormal f → IsNormal (join_text t f)
IsNormal-join_text [] f a h = h
IsNormal-join_text (b ∷ t) none a h = (a, tt, tt)
IsNormal-join_text (b ∷ t) (text u f) a h = (list_all-append (λ b. not (b == 60)) (b ∷ t) u a (clean_text u h.0), h.1, h.2)
IsNormal-join_text (b ∷ t) (comment c more) a h = (a, tt, h)
IsNormal-join_text (b ∷ t) (tag own children more) a h = (a, tt, h)

IsNormal-join_comment : (c : List ℕ) (f : Forest PlainTag) → IsCleanComment c → IsNormal f → IsNormal (join_comment c f)
IsNormal-join_comment [] f a h = h
IsNormal-join_comment (b ∷ c) f a h = (a, h)

IsNormal-tidy : (f : Forest PlainTag) → IsClean f → HaveOwnKeys f → IsNormal (tidy f)
IsNormal-tidy none h k = tt
IsNormal-tidy (text t more) h k = IsNormal-join_text t (tidy more) h.0 (IsNormal-tidy more h.1 k)
IsNormal-tidy (comment c more) h k = IsNormal-join_comment c (tidy more) h.0 (IsNormal-tidy more h.1 k)
IsNormal-tidy (tag own children more) h k = (h.0, k.0, λ v. ap tidy (h.1 v), IsNormal-tidy children h.2 k.1, IsNormal-tidy more h.3 k.2)

pub IsCleanComment-from : (c : List ℕ) → HasCommentForm c → IsCleanComment c
IsCleanComment-from [] h = tt
IsCleanComment-from (b ∷ c) h = h

IsClean-normal : (f : Forest PlainTag) → IsNormal f → IsClean f
IsClean-normal none h = tt
IsClean-normal (text t more) h = (clean_text t h.0, IsClean-normal more h.2)
IsClean-normal (comment c more) h = (IsCleanComment-from c h.0, IsClean-normal more h.1)
IsClean-normal (tag own children more) h = (h.0, h.2, IsClean-normal children h.3, IsClean-normal more h.4)

-- names are text already

pass-name : (n : List ℕ) → list_all is_name n ≡ true → utf8_lossy n ≡ n
pass-name n h = lossy-ident n (AllPass-also is_name is_ident name-ident n (passes is_name n h))

name-same : (n : List ℕ) → IsName n → utf8_lossy n ≡ n
name-same [] h = absurd h
name-same (b ∷ n) h = pass-name (b ∷ n) h

start-same : (n : List ℕ) (ps : List Pair) → IsCleanStart n ps → utf8_lossy n ≡ n
start-same [] ps h = lossy-nil
start-same (b ∷ n) ps h = pass-name (b ∷ n) h.0

-- a pair with its value made text
valued : Pair → Pair
valued p = (p.0, option_map utf8_lossy p.1)

lossy_pairs-clean : (ps : List Pair) → AreCleanPairs ps → map lossy_pair ps ≡ map valued ps
unfolding valued
lossy_pairs-clean [] h = refl
lossy_pairs-clean (p ∷ ps) h = ap₂ (λ k qs. let q : Pair = (k, option_map utf8_lossy p.1) in q ∷ qs) (name-same p.0 h.0) (lossy_pairs-clean ps h.2)

AreCleanPairs-front : (xs ys : List Pair) → AreCleanPairs (xs ++ ys) → AreCleanPairs xs
AreCleanPairs-front [] ys h = tt
AreCleanPairs-front (x ∷ xs) ys h = (h.0, h.1, AreCleanPairs-front xs ys h.2)

clean-start : (n : List ℕ) (ps : List Pair) → IsCleanStart n ps → AreCleanPairs ps
clean-start [] ps h = subst AreCleanPairs (sym h) tt
clean-start (b ∷ n) ps h = h.1

pairs-lossy : (a : PlainAttributes) → printed_pairs (lossy_attributes a) ≡ map lossy_pair (printed_pairs a)
pairs-lossy a =
    let id_key = name-same (codes "id") id-IsName in
    let class_key = name-same (codes "class") class-IsName in
    sym (image-pairs_in_order utf8_lossy utf8_lossy (λ key. key) a.others a.id a.class
    ∙ (λ t. map lossy_pair a.others ++ pair_if_some (id_key t) (option_map utf8_lossy a.id) ++ pair_if_some (class_key t) (option_map utf8_lossy a.class)))

-- made text, a clean forest is clean

still_passes : (p : ℕ → Bool) → p 239 ≡ true → p 191 ≡ true → p 189 ≡ true → (s : List ℕ) → list_all p s ≡ true → list_all p (utf8_lossy s) ≡ true
still_passes p a b c s h = all_pass p (utf8_lossy s) (lossy-AllPass p a b c s (passes p s h))

value-lossy : (v : Option (List ℕ)) → IsCleanValue v → IsCleanValue (option_map utf8_lossy v)
value-lossy None h = tt
value-lossy (Some v) h = still_passes (λ b. not (b == 34)) refl refl refl v h

AreCleanPairs-valued : (ps : List Pair) → AreCleanPairs ps → AreCleanPairs (map valued ps)
unfolding valued
AreCleanPairs-valued [] h = tt
AreCleanPairs-valued (p ∷ ps) h = (h.0, value-lossy p.1 h.1, AreCleanPairs-valued ps h.2)

keys-valued : (ps : List Pair) → keys_of (map valued ps) ≡ keys_of ps
unfolding valued
keys-valued [] = refl
keys-valued (p ∷ ps) = ap (λ ks. p.0 ∷ ks) (keys-valued ps)

AreOthers-valued : (ps : List Pair) → AreOthers (λ key. key) ps → AreOthers (λ key. key) (map valued ps)
unfolding valued
AreOthers-valued [] h = tt
AreOthers-valued (p ∷ ps) h = (h.0, AreOthers-valued ps h.1)

HasOwnKeys-lossy : (a : PlainAttributes) → AreCleanPairs a.others → HasOwnKeys a → HasOwnKeys (lossy_attributes a)
HasOwnKeys-lossy a c h =
    let e = sym (lossy_pairs-clean a.others c) in
    record {
      distinct = subst (IsDistinct bytes_eq) (sym (keys-valued a.others) ∙ ap keys_of e) h.distinct;
      others = subst (AreOthers (λ key. key)) e (AreOthers-valued a.others h.others);
    }

start-lossy : (n : List ℕ) (ps : List Pair) → IsCleanStart n ps → IsCleanStart n (map lossy_pair ps)
start-lossy [] ps h = ap (map lossy_pair) h
start-lossy (b ∷ n) ps h = (h.0, subst AreCleanPairs (sym (lossy_pairs-clean ps h.1)) (AreCleanPairs-valued ps h.1))

others-clean : (a : PlainAttributes) → AreCleanPairs (printed_pairs a) → AreCleanPairs a.others
others-clean a h = AreCleanPairs-front a.others (pair_if_some (codes "id") a.id) (AreCleanPairs-front (a.others ++ pair_if_some (codes "id") a.id) (pair_if_some (codes "class") a.class) h)

IsCleanComment-lossy : (c : List ℕ) → IsCleanComment c → IsCleanComment (utf8_lossy c)
IsCleanComment-lossy [] h = subst IsCleanComment (sym lossy-nil) tt
IsCleanComment-lossy (b ∷ c) h = IsCleanComment-from (utf8_lossy (b ∷ c)) (lossy-comment (b ∷ c) h)

tag-same : (own : PlainTag) → IsCleanTag own → utf8_lossy own.name ≡ own.name
tag-same own h = start-same own.name (printed_pairs own.attributes) h.start

IsCleanTag-lossy : (own : PlainTag) → IsCleanTag own → IsCleanTag (lossy_tag own)
IsCleanTag-lossy own h =
    let e = tag-same own h in
    record {
      start = subst (λ m. IsCleanStart m (printed_pairs (lossy_attributes own.attributes))) (sym e)
          (subst (IsCleanStart own.name) (sym (pairs-lossy own.attributes)) (start-lossy own.name (printed_pairs own.attributes) h.start));
      no_command = λ q. h.no_command (sym e ∙ q);
    }

IsClean-lossy : (f : Forest PlainTag) → IsClean f → IsClean (lossy f)
IsClean-lossy none h = tt
IsClean-lossy (text t more) h = (still_passes (λ b. not (b == 60)) refl refl refl t h.0, IsClean-lossy more h.1)
IsClean-lossy (comment c more) h = (IsCleanComment-lossy c h.0, IsClean-lossy more h.1)
IsClean-lossy (tag own children more) h =
    (IsCleanTag-lossy own h.0, λ v. ap lossy (h.1 (ap is_void (sym (tag-same own h.0)) ∙ v)), IsClean-lossy children h.2, IsClean-lossy more h.3)

HaveOwnKeys-lossy : (f : Forest PlainTag) → IsClean f → HaveOwnKeys f → HaveOwnKeys (lossy f)
HaveOwnKeys-lossy none h k = tt
HaveOwnKeys-lossy (text t more) h k = HaveOwnKeys-lossy more h.1 k
HaveOwnKeys-lossy (comment c more) h k = HaveOwnKeys-lossy more h.1 k
HaveOwnKeys-lossy (tag own children more) h k = (
  HasOwnKeys-lossy own.attributes (others-clean own.attributes (clean-start own.name (printed_pairs own.attributes) h.0.start)) k.0,
  HaveOwnKeys-lossy children h.2 k.1,
  HaveOwnKeys-lossy more h.3 k.2,
)

-- the print shows what is made text

value-shown : (v : Option (List ℕ)) → print_value v ≡ shown_value (option_map utf8_lossy v)
value-shown None = refl
value-shown (Some v) = refl

pairs-shown : (ps : List Pair) → print_pairs ps ≡ shown_pairs (map lossy_pair ps)
pairs-shown [] = refl
pairs-shown (p ∷ ps) = ap₂ (λ x y. 32 ∷ ((utf8_lossy p.0 ++ x) ++ y)) (value-shown p.1) (pairs-shown ps)

regroup₄ : (a b c d s : List ℕ) → (a ++ (b ++ c ++ d)) ++ s ≡ a ++ (b ++ (c ++ (d ++ s)))
regroup₄ a b c d s = simp append_assoc

regroup₆ : (a b c d e f s : List ℕ) → (a ++ b ++ c ++ d ++ e ++ f) ++ s ≡ a ++ (b ++ (c ++ (d ++ (e ++ (f ++ s)))))
regroup₆ a b c d e f s = simp append_assoc

inside_is : (p q : Bool) (k r x y : List ℕ) → p ≡ q → r ≡ x → k ++ r ≡ y → (if p then [] else k) ++ r ≡ (if q then x else y)
inside_is true true k r x y e h i = h
inside_is true false k r x y e h i = absurd (cc)
inside_is false true k r x y e h i = absurd (cc)
inside_is false false k r x y e h i = i

or_no : (p q : Bool) → q ≡ false → (p || q) ≡ p
or_no true q h = refl
or_no false q h = h

pub not_command : (n : List ℕ) → n ≢ codes "command" → is_printed_alone n ≡ is_void n
not_command n h = or_no (is_void n) _ (false_from_ne_true _ (λ t. h ((bytes_eq-Decides n (codes "command")).0 t)))

print-shown : (f : Forest PlainTag) (s : List ℕ) → IsClean f → print f ++ s ≡ print_of (lossy f) s
print-shown none s h = refl
print-shown (text t more) s h = append_assoc (utf8_lossy t) (print more) s ∙ ap (λ x. utf8_lossy t ++ x) (print-shown more s h.1)
print-shown (comment c more) s h = append_assoc (utf8_lossy c) (print more) s ∙ ap (λ x. utf8_lossy c ++ x) (print-shown more s h.1)
print-shown (tag own children more) s h =
    let n : List ℕ = own.name in
    let m : List ℕ = utf8_lossy n in
    let k : List ℕ = print children ++ print_end own in
    let i = print-shown more s h.3 in
    let j = print-shown children (60 ∷ 47 ∷ (m ++ 62 ∷ print_of (lossy more) s)) h.2 in
    let e : is_printed_alone n ≡ is_void m = not_command n h.0.no_command ∙ ap is_void (sym (tag-same own h.0)) in
    regroup₆ (codes "<") m (print_pairs (printed_pairs own.attributes)) (codes ">") (if is_printed_alone n then [] else k) (print more) s
    ∙ ap₂ (λ x y. 60 ∷ (m ++ (x ++ 62 ∷ y))) (pairs-shown (printed_pairs own.attributes) ∙ ap shown_pairs (sym (pairs-lossy own.attributes)))
    (inside_is (is_printed_alone n) (is_void m) k (print more ++ s) (print_of (lossy more) s) (print_of (lossy children) (60 ∷ 47 ∷ (m ++ 62 ∷ print_of (lossy more) s))) e i
    (regroup₄ (print children) (codes "</") m (codes ">") (print more ++ s) ∙ ap (λ x. print children ++ (60 ∷ 47 ∷ (m ++ 62 ∷ x))) i ∙ j))

-- what is made text stays as it is

AreText : Forest PlainTag → Type 0
AreText none = ⊤
AreText (text t more) = IsUtf8 t × AreText more
AreText (comment c more) = IsUtf8 c × AreText more
AreText (tag own children more) = (lossy_tag own ≡ own) × AreText children × AreText more

lossy-twice : (s : List ℕ) → utf8_lossy (utf8_lossy s) ≡ utf8_lossy s
lossy-twice s = utf8_lossy-IsUtf8 (utf8_lossy s) (lossy-IsUtf8 s)

value-twice : (v : Option (List ℕ)) → option_map utf8_lossy (option_map utf8_lossy v) ≡ option_map utf8_lossy v
value-twice None = refl
value-twice (Some v) = ap Some (lossy-twice v)

pairs-twice : (ps : List Pair) → map lossy_pair (map lossy_pair ps) ≡ map lossy_pair ps
pairs-twice [] = refl
pairs-twice (p ∷ ps) =
    let pair : List ℕ → Option (List ℕ) → Pair = λ k v. (k, v) in
    ap₂ (λ q qs. q ∷ qs) (ap₂ pair (lossy-twice p.0) (value-twice p.1)) (pairs-twice ps)

tag-twice : (own : PlainTag) → lossy_tag (lossy_tag own) ≡ lossy_tag own
tag-twice own =
    let n = lossy-twice own.name in
    let i = value-twice own.attributes.id in
    let c = value-twice own.attributes.class in
    let o = pairs-twice own.attributes.others in
    λ x. record { name = n x; attributes = record { others = o x; id = i x; class = c x } }

AreText-lossy : (f : Forest PlainTag) → AreText (lossy f)
unfolding AreText
AreText-lossy none = tt
AreText-lossy (text t more) = (lossy-IsUtf8 t, AreText-lossy more)
AreText-lossy (comment c more) = (lossy-IsUtf8 c, AreText-lossy more)
AreText-lossy (tag own children more) = (tag-twice own, AreText-lossy children, AreText-lossy more)

AreText-join_text : (t : List ℕ) (f : Forest PlainTag) → IsUtf8 t → AreText f → AreText (join_text t f)
unfolding AreText
AreText-join_text [] f u h = h
AreText-join_text (b ∷ t) none u h = (u, tt)
AreText-join_text (b ∷ t) (text v f) u h = (IsUtf8-append (b ∷ t) v u h.0, h.1)
AreText-join_text (b ∷ t) (comment c more) u h = (u, h)
AreText-join_text (b ∷ t) (tag own children more) u h = (u, h)

AreText-join_comment : (c : List ℕ) (f : Forest PlainTag) → IsUtf8 c → AreText f → AreText (join_comment c f)
unfolding AreText
AreText-join_comment [] f u h = h
AreText-join_comment (b ∷ c) f u h = (u, h)

AreText-tidy : (f : Forest PlainTag) → AreText f → AreText (tidy f)
unfolding AreText
AreText-tidy none h = tt
AreText-tidy (text t more) h = AreText-join_text t (tidy more) h.0 (AreText-tidy more h.1)
AreText-tidy (comment c more) h = AreText-join_comment c (tidy more) h.0 (AreText-tidy more h.1)
AreText-tidy (tag own children more) h = (h.0, AreText-tidy children h.1, AreText-tidy more h.2)

lossy-AreText : (f : Forest PlainTag) → AreText f → lossy f ≡ f
unfolding AreText
lossy-AreText none h = refl
lossy-AreText (text t more) h = ap₂ text (utf8_lossy-IsUtf8 t h.0) (lossy-AreText more h.1)
lossy-AreText (comment c more) h = ap₂ comment (utf8_lossy-IsUtf8 c h.0) (lossy-AreText more h.1)
lossy-AreText (tag own children more) h =
    let k = lossy-AreText children h.1 in
    let r = lossy-AreText more h.2 in
    λ x. tag (h.0 x) (k x) (r x)

-- the law

IsNormal-norm : (f : Forest PlainTag) → IsClean f → HaveOwnKeys f → IsNormal (norm f)
IsNormal-norm f h k = IsNormal-tidy (lossy f) (IsClean-lossy f h) (HaveOwnKeys-lossy f h k)

print-norm : (f : Forest PlainTag) → IsClean f → HaveOwnKeys f → print (norm f) ≡ print f
print-norm f h k =
    let g = lossy f in
    let c : IsClean (norm f) = IsClean-normal (tidy g) (IsNormal-norm f h k) in
    sym (append-nil (print (norm f))) ∙ print-shown (norm f) [] c
    ∙ ap (λ x. print_of x []) (lossy-AreText (tidy g) (AreText-tidy g (AreText-lossy f)))
    ∙ shown-tidy g [] ∙ sym (print-shown f [] h) ∙ append-nil (print f)

print-is : (f : Forest PlainTag) → IsClean f → print f ≡ print_of (norm f) []
print-is f h = sym (append-nil (print f)) ∙ print-shown f [] h ∙ sym (shown-tidy (lossy f) [])

pub identity : (f : Forest PlainTag) → IsClean f → HaveOwnKeys f → ReadsAs (print f) f
identity f h k =
    let n = IsNormal-norm f h k in
    let e = print-is f h in
    let same : plain (forest (tokens (print f))) ≡ norm f = ap (λ x. plain (forest (tokens x))) e ∙ forest_again (norm f) n in
    record {
      trees = same;
      no_doctype = subst (λ x. AreNoDoctypes (tokens x)) (sym e) (no_doctype_again (norm f) n);
      alike = ap print same ∙ print-norm f h k;
    }
