-- Where the names of start tags are plain it is no matter whether they drive the tokenizer, or the builder does.
use Rattle.std.proofs.Common.{Some, Bool, List, [], ap, false, inl, inr, map, refl, sym, subst, true, true≢false, ℕ, ◌++◌, ◌==◌, ◌∙◌, ◌∷◌, ◌≡◌, ◌⊎◌, ◌&&◌, if◌then◌else◌}
use Rattle.std.specs.Prelude.{⊤, not}
use Rattle.std.proofs.lemmas.Bool.{and_parts, true_from_ne_false}
use Rattle.tl_html_spec.specs.HtmlTokenizer.{Character, CommentToken, DoctypeToken, EndTag, HtmlAttribute, StartTag, State, data_state, html_tokens, tokens_in_page, without_mark, with_feeds, tokens_from}
use Rattle.tl_html_spec.specs.Driven.{DrivenState, DrivenStep, Driving, Emission, GoesByName, Named, bare, by_name, byte_driven, doctype_of, drive, driven_tokens, driving, ends_with_start, in_state, no_tokens, plain, taken}
use Rattle.tl_html_spec.proofs.Fold.{all_stays, feeds_read}
use Rattle.tl_html_spec.proofs.Named.{names_read}
use Rattle.tl_dom_spec.specs.Tags.{Tag, html_tag, is_html}
use Rattle.tl_dom_spec.specs.Groups.{group}
use Rattle.tl_dom_spec.specs.Builder.{Builder, Flags, adjusted_current_node}
use Rattle.tl_dom_spec.specs.Dispatcher.{numbered, token_done}
use Rattle.tl_dom_spec.specs.Driver.{builder, emitted_token, token_of}
use Rattle.tl_dom_spec.specs.HtmlTree.{Context, context_state, fragment_of_tokens, fragment_start, html_fragment_by, html_tree_by, page_start, tree_of_tokens}
use Rattle.tl_dom_spec.specs.Lawful.{HaveHtmlDoctypes, HavePlainNames, driven_by_names, fragment_built, is_plain_name, page_built, tokens_of_fragment, tokens_of_page}
use Rattle.tl_dom_spec.proofs.Allowed.{Allowed, Each}
use Rattle.tl_dom_spec.proofs.Kept.{Holds}
use Rattle.tl_dom_spec.proofs.HeadRules.{Allows, Starts}
use Rattle.tl_dom_spec.proofs.DispatcherRules.{foreign-allowed, fragment_start-Holds, page_start-Holds, token-Holds}
use Rattle.tl_dom_spec.proofs.PlainNames.{plain_after, plain_inside, plain_no_math, plain_no_svg, plain_scripted}
use Rattle.tl_dom_spec.proofs.TreesFollow.{fragment_is, page_is}

-- HTML elements alone are opened, and the tokenizer stays in its data state
abbrev pub at_home : Flags → Allowed
at_home flags = record {
  Opens = λ t. is_html t ≡ true;
  Stands = λ _. ⊤;
  Says = λ _. ⊤;
  Notes = λ _. ⊤;
  Types = λ _. ⊤;
  Gaps = λ _. ⊤;
  Adds = λ _. ⊤;
  Reads = λ s. s ≡ data_state;
  Around = λ t. is_html t ≡ true;
  Scripts = λ v. v ≡ flags.is_scripting;
  Exceeds = λ _. ⊤;
  Grouped = ⊥;
  Whole = ⊤;
  stands = λ _ _. tt;
  headed = λ t e _. (and_parts (is_html t) _ e).0;
  adds = λ _ _ o _. o;
  grows = λ _ _ _ _. tt;
  html = refl;
  head = refl;
  body = refl;
  paragraph = refl;
  column_group = refl;
  table_body = refl;
  row = refl;
  line_break = tt;
  replaced = (tt, (tt, (tt, tt)));
  data_read = refl;
}

home_again : (own : Tag) → is_html own ≡ false → (is_html own ≡ true) ⊎ (is_html own ≡ true) → ⊥
home_again own e (inl h) = true≢false (sym h ∙ e)
home_again own e (inr h) = true≢false (sym h ∙ e)

plain_start : (flags : Flags) (n : ℕ) (name : List ℕ) (attributes : List HtmlAttribute) → is_plain_name flags name ≡ true →
    Starts (at_home flags) (group name) (record (html_tag name attributes) { source = Some n })
plain_start flags n name attributes p = record {
  opens = λ _. refl;
  alone = tt;
  image = λ _. tt;
  math = λ e. absurd (true≢false (sym e ∙ plain_no_math flags name p));
  svg = λ e. absurd (true≢false (sym e ∙ plain_no_svg flags name p));
  foreign = λ own e o. absurd (home_again own e o);
  more = λ _. tt;
  inside = plain_inside flags name p;
  scripted = λ on. plain_scripted flags name p (sym on);
  after = plain_after flags name p;
  listed = λ y _. absurd y;
}

-- so nothing is foreign
not_foreign : (flags : Flags) (b : Builder) → Holds (at_home flags) b → builder.is_foreign b ≡ false
not_foreign flags b h =
    let own : Tag = adjusted_current_node b in
    ap not (true_from_ne_false (is_html own) (λ e. home_again own e (foreign-allowed (at_home flags) b h e)))

-- emissions whose names are plain

abbrev IsPlain : Flags → Emission → Type 0
IsPlain flags (plain (StartTag name attributes closes)) = is_plain_name flags name ≡ true
IsPlain flags e = ⊤

plain_emission : (flags : Flags) (n : ℕ) (e : Emission) → IsPlain flags e → Allows (at_home flags) (numbered n (emitted_token e))
plain_emission flags n (plain (Character c)) p = tt
plain_emission flags n (plain (StartTag name attributes closes)) p = plain_start flags n name attributes p
plain_emission flags n (plain (EndTag name)) p = tt
plain_emission flags n (plain (CommentToken bytes)) p = tt
plain_emission flags n (plain DoctypeToken) p = tt
plain_emission flags n (doctype_of own) p = tt

-- so names set the data state too
names_set : (flags : Flags) (m : Named) (e : Emission) → IsPlain flags e → (by_name.take m e).sets ≡ data_state
names_set flags m (plain (Character c)) p = refl
names_set flags m (plain (StartTag name attributes closes)) p = plain_after flags name p
names_set flags m (plain (EndTag name)) p = refl
names_set flags m (plain (CommentToken bytes)) p = refl
names_set flags m (plain DoctypeToken) p = refl
names_set flags m (doctype_of own) p = refl

taken-home : (flags : Flags) (b : Builder) (es : List Emission) → Each (IsPlain flags) es → Holds (at_home flags) b → Holds (at_home flags) (taken builder b es)
taken-home flags b [] p h = h
taken-home flags b (e ∷ es) p h = taken-home flags (token_done b (emitted_token e)) es p.1 (token-Holds (at_home flags) b (emitted_token e) (plain_emission flags b.marks e p.0) tt h)

taken-names : (flags : Flags) (m : Named) (es : List Emission) → Each (IsPlain flags) es → m.sets ≡ data_state → (taken by_name m es).sets ≡ data_state
taken-names flags m [] p h = h
taken-names flags m (e ∷ es) p h = taken-names flags (by_name.take m e) es p.1 (names_set flags m e p.0)

each-parts : {X : Type 0} (P : X → Type 0) (xs ys : List X) → Each P (xs ++ ys) → Each P xs × Each P ys
each-parts P [] ys h = (tt, h)
each-parts P (x ∷ xs) ys h = let more = each-parts P xs ys h.1 in ((h.0, more.0), more.1)

-- one text, driven by both

abbrev reader : {M : Type 0} → M → DrivenState → Bool → Driving M
reader m s v = record { memory = m; state = s; after_return = v }

-- where a start tag sets this state
abbrev on : DrivenStep → State → DrivenState
on x s = if ends_with_start x.emits then in_state s else x.next

abbrev rest_built : Builder → DrivenStep → State → ℕ → List ℕ → List Emission
rest_built b x s c text = x.emits ++ driven_tokens builder (reader b (on x s) (c == 13)) text

abbrev rest_named : Named → DrivenStep → State → ℕ → List ℕ → List Emission
rest_named m x s c text = x.emits ++ driven_tokens by_name (reader m (on x s) (c == 13)) text

pub same_tokens : (flags : Flags) (b : Builder) (m : Named) (s : DrivenState) (v : Bool) (text : List ℕ) → Holds (at_home flags) b → m.sets ≡ data_state →
    Each (IsPlain flags) (driven_tokens by_name (reader m s v) text) → driven_tokens builder (reader b s v) text ≡ driven_tokens by_name (reader m s v) text
unfolding drive
same_tokens flags b m s v [] h k p = refl
same_tokens flags b m s v (c ∷ text) h k p =
    let passed : Bool = v && (c == 10) in
    let x : DrivenStep = byte_driven passed false s c in
    let built : Builder = taken builder b x.emits in
    let named : Named = taken by_name m x.emits in
    let parts = each-parts (IsPlain flags) x.emits (driven_tokens by_name (reader named (on x named.sets) (c == 13)) text) p in
    let i = taken-home flags b x.emits parts.0 h in
    let j = taken-names flags m x.emits parts.0 k in
    ap (λ f. let y : DrivenStep = byte_driven passed f s c in rest_built (taken builder b y.emits) y (taken builder b y.emits).reads c text) (not_foreign flags b h)
    ∙ ap (λ r. rest_built built x r c text) i.0.3.state
    ∙ ap (λ ts. x.emits ++ ts)
    (same_tokens flags built named (on x data_state) (c == 13) text i j (subst (λ r. Each (IsPlain flags) (driven_tokens by_name (reader named (on x r) (c == 13)) text)) j parts.1))
    ∙ sym (ap (λ r. rest_named named x r c text) j)

-- the tokens of a text that names drive are what the tokenizer reads by itself

named_goes : (m : Named) (es : List Emission) → GoesByName by_name m es
named_goes m [] = refl
named_goes m (plain (StartTag name attributes closes) ∷ es) = (refl, refl, named_goes (by_name.take m (plain (StartTag name attributes closes))) es)
named_goes m (plain (Character c) ∷ es) = (refl, tt, named_goes (by_name.take m (plain (Character c))) es)
named_goes m (plain (EndTag name) ∷ es) = (refl, tt, named_goes (by_name.take m (plain (EndTag name))) es)
named_goes m (plain (CommentToken bytes) ∷ es) = (refl, tt, named_goes (by_name.take m (plain (CommentToken bytes))) es)
named_goes m (plain DoctypeToken ∷ es) = (refl, tt, named_goes (by_name.take m (plain DoctypeToken)) es)
named_goes m (doctype_of own ∷ es) = (refl, tt, named_goes (by_name.take m (doctype_of own)) es)

pub named_tokens : (bytes : List ℕ) → map bare (driven_by_names bytes) ≡ tokens_in_page bytes
named_tokens bytes =
    names_read by_name (driving no_tokens (in_state data_state)) bytes tt (named_goes no_tokens (driven_by_names bytes))
    ∙ feeds_read false data_state bytes
    ∙ ap (λ t. tokens_from data_state (with_feeds t)) (all_stays bytes)

are_plain : (flags : Flags) (es : List Emission) → HavePlainNames flags (map bare es) → Each (IsPlain flags) es
are_plain flags [] p = tt
are_plain flags (plain (StartTag name attributes closes) ∷ es) p = (p.0, are_plain flags es p.1)
are_plain flags (plain (Character c) ∷ es) p = (tt, are_plain flags es p)
are_plain flags (plain (EndTag name) ∷ es) p = (tt, are_plain flags es p)
are_plain flags (plain (CommentToken bytes) ∷ es) p = (tt, are_plain flags es p)
are_plain flags (plain DoctypeToken ∷ es) p = (tt, are_plain flags es p)
are_plain flags (doctype_of own ∷ es) p = (tt, are_plain flags es p)

read_plain : (flags : Flags) (b : Builder) (bytes : List ℕ) → Holds (at_home flags) b → HavePlainNames flags (tokens_in_page bytes) → driven_tokens builder (driving b (in_state data_state)) bytes ≡ driven_by_names bytes
read_plain flags b bytes h p =
    same_tokens flags b no_tokens (in_state data_state) false bytes h refl
    (are_plain flags (driven_by_names bytes) (subst (HavePlainNames flags) (sym (named_tokens bytes)) p))

-- with doctypes that are `<!DOCTYPE html>` it is the same to leave their parts out
bare_tokens : (es : List Emission) → HaveHtmlDoctypes es → map emitted_token es ≡ map token_of (map bare es)
bare_tokens [] d = refl
bare_tokens (plain token ∷ es) d = ap (λ ts. token_of token ∷ ts) (bare_tokens es d)
bare_tokens (doctype_of own ∷ es) d = ap (λ own. emitted_token (doctype_of own) ∷ map emitted_token es) d.0 ∙ ap (λ ts. token_of DoctypeToken ∷ ts) (bare_tokens es d.1)

read_bare : (bytes : List ℕ) → HaveHtmlDoctypes (driven_by_names bytes) → map emitted_token (driven_by_names bytes) ≡ map token_of (tokens_in_page bytes)
read_bare bytes d = bare_tokens (driven_by_names bytes) d ∙ ap (map token_of) (named_tokens bytes)

-- pages

pub plain_page_tokens : (flags : Flags) (page : List ℕ) → HavePlainNames flags (html_tokens page) → tokens_of_page flags page ≡ map emitted_token (driven_by_names (without_mark page))
plain_page_tokens flags page p = ap (map emitted_token) (read_plain flags (page_start flags) (without_mark page) (page_start-Holds (at_home flags) flags refl tt tt) p)

pub plain_page : (flags : Flags) (page : List ℕ) → HavePlainNames flags (html_tokens page) → html_tree_by flags page ≡ page_built flags (map emitted_token (driven_by_names (without_mark page)))
plain_page flags page p = page_is flags page ∙ ap (page_built flags) (plain_page_tokens flags page p)

pub bare_page : (flags : Flags) (page : List ℕ) → HavePlainNames flags (html_tokens page) → HaveHtmlDoctypes (driven_by_names (without_mark page)) →
    html_tree_by flags page ≡ tree_of_tokens flags (html_tokens page)
bare_page flags page p d = plain_page flags page p ∙ ap (page_built flags) (read_bare (without_mark page) d)

-- fragments

pub plain_fragment_tokens : (flags : Flags) (context : Context) (bytes : List ℕ) → is_html context.tag ≡ true → context_state flags context.tag ≡ data_state →
    HavePlainNames flags (tokens_in_page bytes) → tokens_of_fragment flags context bytes ≡ map emitted_token (driven_by_names bytes)
plain_fragment_tokens flags context bytes a s p =
    ap (λ r. map emitted_token (driven_tokens builder (driving (fragment_start flags context) (in_state r)) bytes)) s
    ∙ ap (map emitted_token) (read_plain flags (fragment_start flags context) bytes (fragment_start-Holds (at_home flags) flags context refl tt a tt) p)

pub plain_fragment : (flags : Flags) (context : Context) (bytes : List ℕ) → is_html context.tag ≡ true → context_state flags context.tag ≡ data_state →
    HavePlainNames flags (tokens_in_page bytes) → html_fragment_by flags context bytes ≡ fragment_built flags context (map emitted_token (driven_by_names bytes))
plain_fragment flags context bytes a s p = fragment_is flags context bytes ∙ ap (fragment_built flags context) (plain_fragment_tokens flags context bytes a s p)

pub bare_fragment : (flags : Flags) (context : Context) (bytes : List ℕ) → is_html context.tag ≡ true → context_state flags context.tag ≡ data_state →
    HavePlainNames flags (tokens_in_page bytes) → HaveHtmlDoctypes (driven_by_names bytes) → html_fragment_by flags context bytes ≡ fragment_of_tokens flags context (tokens_in_page bytes)
bare_fragment flags context bytes a s p d = plain_fragment flags context bytes a s p ∙ ap (fragment_built flags context) (read_bare bytes d)
