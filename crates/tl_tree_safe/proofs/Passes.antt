-- One pass writes what is kept and made to stay.
use Rattle.std.proofs.Common.{Bool, List, None, Option, Some, [], ap, ap₂, append_assoc, codes, false, if◌then◌else◌, not, refl, sym, true, true≢false, ℕ, ◌&&◌, ◌++◌, ◌∙◌, ◌∷◌, ◌≡◌}
use Rattle.std.proofs.lemmas.Bool.{and_parts}
use Rattle.tl_dom_spec.specs.HtmlForest.{HtmlForest, comment, doctype, element, has_contents, no_trees, text}
use Rattle.tl_dom_spec.specs.Lawful as L
use Rattle.tl_dom_spec.specs.Marks.{Marked}
use Rattle.tl_dom_spec.specs.Tags.{Namespace, Tag, by_space, html_space, is_html}
use Rattle.tl_html_print.proofs.BuiltAgain.{void_same}
use Rattle.tl_html_print.specs.Serialized.{end_tag, escaped, is_literal_in, parent_below, serialized, serialized_text, start_tag, unless_void}
use Rattle.tl_html_spec.specs.Balanced.{is_one_of}
use Rattle.tl_safe_fit.specs.Words.{is_among}
use Rattle.tl_spec.specs.Lex.ByteClass.{is_void}
use Rattle.tl_tree_safe.proofs.Readable.{listed_tag, markup}
use Rattle.tl_tree_safe.specs.Fitted.{Names, at_top, fitted, in_place, inside, is_read, past_lines, text_there, unlined}
use Rattle.tl_tree_safe.specs.Inner.Pass.{Written, element_pass, followed, part_pass, pass, passed, place_pass, text_pass, text_said, unchanged}
use Rattle.tl_tree_safe.specs.Kept.{goes, joined, kept, kept_element, kept_tag, stays, unwrapped}
use Rattle.tl_tree_safe.specs.KeptFitted.{kept_fitted}
use Rattle.tl_tree_safe.specs.Lists.{ListedWords, lists_words, opaque_names}
use Rattle.tl_tree_spec.specs.Groups.{group}
use Rattle.tl_tree_spec.specs.HtmlForest.{is_empty}
use Rattle.tl_tree_spec.specs.Stays.{is_preformatted, may_stand}

abbrev made : List ℕ → Bool → Written
made bytes fresh = record { bytes = bytes; fresh = fresh }

abbrev either : Bool → Written → Written → Written
either v a b = if v then a else b

-- Line feeds first

abbrev lined : Bool → HtmlForest → HtmlForest
lined fresh f = if fresh then unlined f else f

-- nothing but line feeds is in trees
abbrev are_lines : HtmlForest → Bool
are_lines no_trees = true
are_lines (text own more) = is_empty (past_lines own.said) && are_lines more
are_lines (comment own more) = false
are_lines (doctype own more) = false
are_lines (element tag below more) = false

-- what trees print as, and whether nothing else was in them
abbrev printed : Option Tag → Bool → HtmlForest → Written
printed parent fresh f = record { bytes = serialized false parent (lined fresh f); fresh = fresh && are_lines f }

joined_print : (parent : Option Tag) (f g : HtmlForest) → serialized false parent (joined f g) ≡ serialized false parent f ++ serialized false parent g
joined_print parent no_trees g = refl
joined_print parent (text own more) g =
    ap (λ (x : List ℕ). serialized_text false parent own.said ++ x) (joined_print parent more g)
    ∙ sym (append_assoc (serialized_text false parent own.said) (serialized false parent more) (serialized false parent g))
joined_print parent (comment own more) g =
    ap (λ (x : List ℕ). (codes "<!--" ++ (own.said ++ codes "-->")) ++ x) (joined_print parent more g)
    ∙ sym (append_assoc (codes "<!--" ++ (own.said ++ codes "-->")) (serialized false parent more) (serialized false parent g))
joined_print parent (doctype own more) g =
    ap (λ (x : List ℕ). (codes "<!DOCTYPE " ++ (own.said.name ++ codes ">")) ++ x) (joined_print parent more g)
    ∙ sym (append_assoc (codes "<!DOCTYPE " ++ (own.said.name ++ codes ">")) (serialized false parent more) (serialized false parent g))
joined_print parent (element tag below more) g =
    let inner = unless_void tag (serialized false (parent_below tag) below) in
    ap (λ (x : List ℕ). start_tag tag ++ (inner ++ (end_tag tag ++ x))) (joined_print parent more g)
    ∙ sym (four (start_tag tag) inner (end_tag tag) (serialized false parent more) (serialized false parent g))
  where
    four : (a b c d e : List ℕ) → (a ++ (b ++ (c ++ d))) ++ e ≡ a ++ (b ++ (c ++ (d ++ e)))
    four a b c d e =
        append_assoc a (b ++ (c ++ d)) e
        ∙ ap (λ x. a ++ x) (append_assoc b (c ++ d) e ∙ ap (λ x. b ++ x) (append_assoc c d e))

unlined_joined : (f g : HtmlForest) → unlined (joined f g) ≡ joined (unlined f) (lined (are_lines f) g)
unlined_joined no_trees g = refl
unlined_joined (text own more) g = here (is_empty (past_lines own.said)) (unlined_joined more g)
  where
    here : (v : Bool) → unlined (joined more g) ≡ joined (unlined more) (lined (are_lines more) g) →
        text (record own { said = past_lines own.said }) (if v then unlined (joined more g) else joined more g)
        ≡ text (record own { said = past_lines own.said }) (joined (if v then unlined more else more) (lined (v && are_lines more) g))
    here true e = ap (text (record own { said = past_lines own.said })) e
    here false e = refl
unlined_joined (comment own more) g = refl
unlined_joined (doctype own more) g = refl
unlined_joined (element tag below more) g = refl

lines_joined : (f g : HtmlForest) → are_lines (joined f g) ≡ are_lines f && are_lines g
lines_joined no_trees g = refl
lines_joined (text own more) g = ap (λ v. is_empty (past_lines own.said) && v) (lines_joined more g) ∙ here (is_empty (past_lines own.said)) (are_lines more) (are_lines g)
  where
    here : (a b c : Bool) → a && (b && c) ≡ (a && b) && c
    here true b c = refl
    here false b c = refl
lines_joined (comment own more) g = refl
lines_joined (doctype own more) g = refl
lines_joined (element tag below more) g = refl

-- trees one after the other
printed_joined : (parent : Option Tag) (fresh : Bool) (f g : HtmlForest) → followed (printed parent fresh f) (λ now. printed parent now g) ≡ printed parent fresh (joined f g)
printed_joined parent true f g =
    ap₂ made
    (sym (ap (serialized false parent) (unlined_joined f g) ∙ joined_print parent (unlined f) (lined (are_lines f) g)))
    (sym (lines_joined f g))
printed_joined parent false f g =
    ap (λ (x : List ℕ). made x false) (sym (joined_print parent f g))

-- Texts

text_passes : (parent : Option Tag) (names : Names) (fresh : Bool) (own : Marked (List ℕ)) (more : HtmlForest) → is_literal_in false parent ≡ false →
    followed (text_pass names fresh own.said) (λ now. printed parent now more) ≡ printed parent fresh (text (record own { said = text_said names own.said }) more)
text_passes parent names true own more l =
    here (is_empty (past_lines (text_said names own.said)))
  where
    here : (v : Bool) →
        made (escaped false (past_lines (text_said names own.said)) ++ serialized false parent (if v then unlined more else more)) (v && are_lines more)
        ≡ made (serialized_text false parent (past_lines (text_said names own.said)) ++ serialized false parent (if v then unlined more else more)) (v && are_lines more)
    here v =
        ap (λ (t : Bool). made ((if t then past_lines (text_said names own.said) else escaped false (past_lines (text_said names own.said))) ++ serialized false parent (if v then unlined more else more)) (v && are_lines more)) (sym l)
text_passes parent names false own more l =
    ap (λ (t : Bool). made ((if t then text_said names own.said else escaped false (text_said names own.said)) ++ serialized false parent more) false) (sym l)

-- Elements

-- an element that may stand holds markup
module _ (p : ListedWords) (l : lists_words p ≡ true) (names : Names) (tag : Tag) (n : is_among p.tags tag.name ≡ true) (r : is_read names tag.name ≡ true) where
  not_literal : is_literal_in false (parent_below tag) ≡ false
  not_literal = here (has_contents tag)
    where
      here : (v : Bool) → is_literal_in false (if v then None else Some tag) ≡ false
      here true = refl
      here false = (markup names tag r (listed_tag p tag.name l n).low).1

html_is : (s : Namespace) → by_space s true false false ≡ true → s ≡ html_space
html_is html_space h = refl
html_is _ h = absurd (true≢false (sym h))

-- void elements are those of the print
pub void_is : (names : Names) (tag : Tag) → is_html tag ≡ true → is_read names tag.name ≡ true → L.is_void tag ≡ is_void tag.name
void_is names tag h r =
    ap (λ v. v && is_one_of L.void_names tag.name) h ∙ void_same names tag.name (and_parts (may_stand names tag.name) _ (and_parts (may_stand names tag.name && _) _ r).0).0

element_print : (parent : Option Tag) (tag : Tag) (below more : HtmlForest) (v u : Bool) → u ≡ v → (q : Bool) →
    (either v (made (start_tag tag ++ []) false)
    (made (start_tag tag ++ (serialized false (parent_below tag) (lined q below) ++ (if u then [] else codes "</" ++ (tag.name ++ codes ">")))) false)).bytes ++ serialized false parent more
    ≡ start_tag tag
    ++ ((if u then [] else serialized false (parent_below tag) (if v then no_trees else if q then unlined below else below))
    ++ ((if u then [] else codes "</" ++ (tag.name ++ codes ">")) ++ serialized false parent more))
element_print parent tag below more true true e q = append_assoc (start_tag tag) [] (serialized false parent more)
element_print parent tag below more false false e q =
    append_assoc (start_tag tag) (serialized false (parent_below tag) (lined q below) ++ (codes "</" ++ (tag.name ++ codes ">"))) (serialized false parent more)
    ∙ ap (λ x. start_tag tag ++ x) (append_assoc (serialized false (parent_below tag) (lined q below)) (codes "</" ++ (tag.name ++ codes ">")) (serialized false parent more))
element_print parent tag below more true false e q = absurd (true≢false (sym e))
element_print parent tag below more false true e q = absurd (true≢false e)

never_fresh : (v : Bool) (a b : List ℕ) → (either v (made a false) (made b false)).fresh ≡ false
never_fresh true a b = refl
never_fresh false a b = refl

no_lines : (parent : Option Tag) (fresh : Bool) (tag : Tag) (below more : HtmlForest) → made (serialized false parent (element tag below more)) false ≡ printed parent fresh (element tag below more)
no_lines parent true tag below more = refl
no_lines parent false tag below more = refl

-- what follows an element is not first
after_element : (parent : Option Tag) (w : Written) (more : HtmlForest) → w.fresh ≡ false → followed w (λ now. printed parent now more) ≡ made (w.bytes ++ serialized false parent more) false
after_element parent w more e = ap (λ v. made (w.bytes ++ serialized false parent (lined v more)) (v && are_lines more)) e

element_passes : (parent : Option Tag) (fresh : Bool) (tag : Tag) (below more : HtmlForest) → L.is_void tag ≡ is_void tag.name →
    followed (element_pass tag (λ now. printed (parent_below tag) now below)) (λ now. printed parent now more)
    ≡ printed parent fresh (element tag (inside tag.name below) more)
element_passes parent fresh tag below more e =
    let w = element_pass tag (λ now. printed (parent_below tag) now below) in
    after_element parent w more (never_fresh (is_void tag.name) _ _)
    ∙ ap (λ (x : List ℕ). made x false) (element_print parent tag below more (is_void tag.name) (L.is_void tag) e (is_preformatted (group tag.name)))
    ∙ no_lines parent fresh tag (inside tag.name below) more

place_passes : (parent : Option Tag) (fresh : Bool) (tag : Tag) (below more : HtmlForest) →
    followed (place_pass tag fresh (λ now. printed parent now below)) (λ now. printed parent now more) ≡ printed parent fresh (joined (in_place tag.name below) more)
place_passes parent fresh tag below more = here (is_void tag.name)
  where
    here : (v : Bool) → followed (if v then unchanged fresh else printed parent fresh below) (λ now. printed parent now more) ≡ printed parent fresh (joined (if v then no_trees else below) more)
    here true = refl
    here false = printed_joined parent fresh below more

-- Trees

followed_same : (w : Written) (f g : Bool → Written) → f w.fresh ≡ g w.fresh → followed w f ≡ followed w g
followed_same w f g e = ap (λ (later : Written). made (w.bytes ++ later.bytes) later.fresh) e

element_same : (tag : Tag) (f g : Bool → Written) → ((now : Bool) → f now ≡ g now) → element_pass tag f ≡ element_pass tag g
element_same tag f g e =
    ap (λ (w : Written). either (is_void tag.name) (made (start_tag tag ++ []) false) (made (start_tag tag ++ (w.bytes ++ end_tag tag)) false))
    (e (is_preformatted (group tag.name)))

place_same : (tag : Tag) (fresh : Bool) (f g : Bool → Written) → ((now : Bool) → f now ≡ g now) → place_pass tag fresh f ≡ place_pass tag fresh g
place_same tag fresh f g e = ap (λ (w : Written). if is_void tag.name then unchanged fresh else w) (e fresh)

joined_again : (f g h : HtmlForest) → joined (joined f g) h ≡ joined f (joined g h)
joined_again no_trees g h = refl
joined_again (text own more) g h = ap (text own) (joined_again more g h)
joined_again (comment own more) g h = ap (comment own) (joined_again more g h)
joined_again (doctype own more) g h = ap (doctype own) (joined_again more g h)
joined_again (element tag below more) g h = ap (element tag below) (joined_again more g h)

fitted_joined : (names : Names) (f g : HtmlForest) → fitted names (joined f g) ≡ joined (fitted names f) (fitted names g)
fitted_joined names no_trees g = refl
fitted_joined names (text own more) g = ap (text (text_there names own)) (fitted_joined names more g)
fitted_joined names (comment own more) g = fitted_joined names more g
fitted_joined names (doctype own more) g = fitted_joined names more g
fitted_joined names (element tag below more) g = here (is_read names tag.name) (fitted_joined names more g)
  where
    here : (v : Bool) → fitted names (joined more g) ≡ joined (fitted names more) (fitted names g) →
        (if v then element tag (inside tag.name (fitted (tag.name ∷ names) below)) (fitted names (joined more g)) else joined (in_place tag.name (fitted names below)) (fitted names (joined more g)))
        ≡ joined (if v then element tag (inside tag.name (fitted (tag.name ∷ names) below)) (fitted names more) else joined (in_place tag.name (fitted names below)) (fitted names more)) (fitted names g)
    here true e = ap (element tag (inside tag.name (fitted (tag.name ∷ names) below))) e
    here false e = ap (joined (in_place tag.name (fitted names below))) e ∙ sym (joined_again (in_place tag.name (fitted names below)) (fitted names more) (fitted names g))

-- of a void element nothing is kept that is in it, and nothing would be written of it
inside_kept : (names : Names) (n : List ℕ) (f : HtmlForest) → inside n (fitted names (if is_void n then no_trees else f)) ≡ inside n (fitted names f)
inside_kept names n f = here (is_void n) (is_preformatted (group n))
  where
    here : (v q : Bool) → (if v then no_trees else if q then unlined (fitted names (if v then no_trees else f)) else fitted names (if v then no_trees else f))
        ≡ (if v then no_trees else if q then unlined (fitted names f) else fitted names f)
    here true q = refl
    here false q = refl

in_place_kept : (names : Names) (n : List ℕ) (f : HtmlForest) → in_place n (fitted names (if is_void n then no_trees else f)) ≡ in_place n (fitted names f)
in_place_kept names n f = here (is_void n)
  where
    here : (v : Bool) → (if v then no_trees else fitted names (if v then no_trees else f)) ≡ (if v then no_trees else fitted names f)
    here true = refl
    here false = refl

module _ (p : ListedWords) (l : lists_words p ≡ true) where
  abbrev Passes : Option Tag → Names → HtmlForest → Type 0
  Passes parent names f = (fresh : Bool) → pass p names fresh f ≡ printed parent fresh (fitted names (kept p f))

  -- a listed element
  stays_pass : (parent : Option Tag) (names : Names) (fresh : Bool) (tag : Tag) (below more : HtmlForest) → is_html tag ≡ true → is_among p.tags tag.name ≡ true →
      (is_literal_in false (parent_below (kept_tag p tag)) ≡ false → Passes (parent_below (kept_tag p tag)) (tag.name ∷ names) below) → Passes parent names below → Passes parent names more →
      followed (part_pass p names fresh tag (λ now. pass p (tag.name ∷ names) now below) (λ now. pass p names now below) stays) (λ now. pass p names now more)
      ≡ printed parent fresh (fitted names (kept_element p tag (kept p below) (kept p more) stays))
  stays_pass parent names fresh tag below more h n inner place later = here (is_read names tag.name) refl
    where
      here : (r : Bool) → is_read names tag.name ≡ r →
          followed
          (if r then element_pass (kept_tag p tag) (λ now. pass p (tag.name ∷ names) now below) else place_pass tag fresh (λ now. pass p names now below))
          (λ now. pass p names now more)
          ≡ printed parent fresh (if r
          then element (kept_tag p tag) (inside tag.name (fitted (tag.name ∷ names) (if is_void tag.name then no_trees else kept p below))) (fitted names (kept p more))
          else joined (in_place tag.name (fitted names (if is_void tag.name then no_trees else kept p below))) (fitted names (kept p more)))
      here true r =
          let own = kept_tag p tag in
          let f = fitted (tag.name ∷ names) (kept p below) in
          let w = element_pass own (λ now. printed (parent_below own) now f) in
          ap (λ (x : Written). followed x (λ now. pass p names now more))
          (element_same own (λ now. pass p (tag.name ∷ names) now below) (λ now. printed (parent_below own) now f) (inner (not_literal p l names own n r)))
          ∙ followed_same w (λ now. pass p names now more) (λ now. printed parent now (fitted names (kept p more))) (later w.fresh)
          ∙ element_passes parent fresh own f (fitted names (kept p more)) (void_is names own h r)
          ∙ ap (λ (b : HtmlForest). printed parent fresh (element own b (fitted names (kept p more)))) (sym (inside_kept (tag.name ∷ names) tag.name (kept p below)))
      here false r =
          let f = fitted names (kept p below) in
          let w = place_pass tag fresh (λ now. printed parent now f) in
          ap (λ (x : Written). followed x (λ now. pass p names now more)) (place_same tag fresh (λ now. pass p names now below) (λ now. printed parent now f) place)
          ∙ followed_same w (λ now. pass p names now more) (λ now. printed parent now (fitted names (kept p more))) (later w.fresh)
          ∙ place_passes parent fresh tag f (fitted names (kept p more))
          ∙ ap (λ (b : HtmlForest). printed parent fresh (joined b (fitted names (kept p more)))) (sym (in_place_kept names tag.name (kept p below)))

  unwrapped_pass : (parent : Option Tag) (names : Names) (fresh : Bool) (below more : HtmlForest) → Passes parent names below → Passes parent names more →
      followed (pass p names fresh below) (λ now. pass p names now more) ≡ printed parent fresh (fitted names (joined (kept p below) (kept p more)))
  unwrapped_pass parent names fresh below more place later =
      let w = printed parent fresh (fitted names (kept p below)) in
      ap (λ (x : Written). followed x (λ now. pass p names now more)) (place fresh)
      ∙ followed_same w (λ now. pass p names now more) (λ now. printed parent now (fitted names (kept p more))) (later w.fresh)
      ∙ printed_joined parent fresh (fitted names (kept p below)) (fitted names (kept p more))
      ∙ ap (printed parent fresh) (sym (fitted_joined names (kept p below) (kept p more)))

  passes : (parent : Option Tag) (names : Names) (f : HtmlForest) → is_literal_in false parent ≡ false → Passes parent names f
  passes parent names no_trees e true = refl
  passes parent names no_trees e false = refl
  passes parent names (text own more) e fresh =
      let w = text_pass names fresh own.said in
      followed_same w (λ now. pass p names now more) (λ now. printed parent now (fitted names (kept p more))) (passes parent names more e w.fresh)
      ∙ text_passes parent names fresh own (fitted names (kept p more)) e
  passes parent names (comment own more) e fresh = passes parent names more e fresh
  passes parent names (doctype own more) e fresh = passes parent names more e fresh
  passes parent names (element tag below more) e fresh =
      by (is_html tag) (is_among p.tags tag.name) (is_among opaque_names tag.name) refl refl
      (λ lit. passes (parent_below (kept_tag p tag)) (tag.name ∷ names) below lit) (λ now. passes parent names below e now) (λ now. passes parent names more e now)
    where
      by : (h n o : Bool) → is_html tag ≡ h → is_among p.tags tag.name ≡ n →
          (is_literal_in false (parent_below (kept_tag p tag)) ≡ false → Passes (parent_below (kept_tag p tag)) (tag.name ∷ names) below) → Passes parent names below → Passes parent names more →
          followed (part_pass p names fresh tag (λ now. pass p (tag.name ∷ names) now below) (λ now. pass p names now below) (if not h then goes else if n then stays else if o then goes else unwrapped)) (λ now. pass p names now more)
          ≡ printed parent fresh (fitted names (kept_element p tag (kept p below) (kept p more) (if not h then goes else if n then stays else if o then goes else unwrapped)))
      by false n o a b inner place later = later fresh
      by true true o a b inner place later = stays_pass parent names fresh tag below more a b inner place later
      by true false true a b inner place later = later fresh
      by true false false a b inner place later = unwrapped_pass parent names fresh below more place later

pub pass_writes : (p : ListedWords) (trees : HtmlForest) → lists_words p ≡ true → passed p trees ≡ serialized false None (kept_fitted p trees)
pass_writes p trees l = ap (λ (w : Written). w.bytes) (passes p l None at_top trees refl false)
