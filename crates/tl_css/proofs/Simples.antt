-- Simple selectors: what is read stands by the grammar, and what stands is read.
use Rattle.std.proofs.Common.{◌≡◌, ◌≢◌, ℕ, List, [], ◌∷◌, length, drop, Bool, true, false, ◌&&◌, ◌||◌, ◌==◌, Option, Some, None, is_some, Result, Ok, Err, IfSome, refl, ap, sym, subst, ◌∙◌, codes, bytes_eq}
use Rattle.std.specs.Prelude.{if◌then◌else◌, IfOk}
use Rattle.std.specs.Str.{byte, str_to_ascii_lowercase}
use Rattle.std.proofs.lemmas.Bool.{eqb-true}
use Rattle.tl_spec.proofs.Lex.Grammar.{if_yes, if_no, differs}
use Rattle.tl_spec.proofs.Lex.Shrinks.{if_both}
use Rattle.tl_spec.specs.Lex.ByteClass.{is_quote}
use Rattle.tl_css.specs.declared.error.Wrong.{Wrong}
use Rattle.tl_css.specs.declared.error.Cause.{Cause}
use Rattle.tl_css.specs.declared.error.Cause.TheVariants.{Unclosed, NoName}
use Rattle.tl_css.specs.declared.selector.Anchor.TheVariants.{Scope}
use Rattle.tl_css.specs.declared.selector.Formula.{Formula}
use Rattle.tl_css.specs.declared.selector.Link.{Link}
use Rattle.tl_css.specs.declared.selector.Link.TheVariants.{Parent, Sibling, Twin}
use Rattle.tl_css.specs.declared.selector.Case.{Case}
use Rattle.tl_css.specs.declared.selector.Case.TheVariants.{Unsaid, Folded, Exact}
use Rattle.tl_css.specs.declared.selector.Op.{Op}
use Rattle.tl_css.specs.declared.selector.Space.{Space}
use Rattle.tl_css.specs.declared.selector.Space.TheVariants.{Bare, Every}
use Rattle.tl_css.specs.declared.selector.Way.{Way}
use Rattle.tl_css.specs.declared.text.role.Role.{Role}
use Rattle.tl_css.specs.declared.text.role.Role.TheVariants.{NthOf}
use Rattle.tl_css.specs.declared.text.role.PseudoClass.{PseudoClass}
use Rattle.tl_css.specs.declared.text.role.PseudoClass.TheVariants as p
use Rattle.tl_css.specs.Selector.{Css, Ident, ident_of, Test, Any, Is, Name, Value}
use Rattle.tl_css.specs.Read.{Read, wrong, wrong_at, ◌>>=◌, after_byte}
use Rattle.tl_css.specs.Lexical.{part_at, run_at, begins, begins_name, name_at, lower_run, is_word, gap_at, past_comments}
use Rattle.tl_css.specs.Formula.{formula_at}
use Rattle.tl_css.specs.Attribute.{op_of, op_by, starred_by, space_at, key_at, op_at, string_by, value_at, flag_at, close_at, match_at, after_key, attribute_at}
use Rattle.tl_css.specs.PseudoClass.{Simple, Whole, Opens, nowhere, outermost, pseudo_class, begins_argument, whole_at, is_sibling, after_formula, nth_at, argument_at, class_at, class_by, pseudo_at}
use Rattle.tl_css.specs.Item.{simple_at, star_by, type_at, first_at}
use Rattle.tl_css.specs.SimpleGrammar.{GapStands, NameStands, WordStands, word, ValueStands, bare, quoted, FlagStands, no_flag, folds, exact, KeyStands, plain_key, bare_space, every_space, AttributeStands, key, value, PseudoStands, edge_class, only_class, anchor_class, empty_class, nth_class, ListBegins, list_class, of_class, TypeStands, any_type, named_type, begins_bar, SimpleStands, any, type, every_type, bare_type, nesting, id, class, attribute, pseudo}
use Rattle.std.proofs.lemmas.Slice.Eq.{bytes_eq-Decides}
use Rattle.std.specs.Cmp.{unsigned_Decides}
use Rattle.std.proofs.Common.{arith}
use Rattle.tl_css.proofs.Runs.{run_none}
use Rattle.tl_css.proofs.Leaf.{simple_by}
use Rattle.tl_css.proofs.ItemsRead.{Reads, reads_bind, reads_then}

-- Names and words

name_by : (b : Bool) (s : List ℕ) (r p : List ℕ × List ℕ) → (if b then Ok r else wrong s NoName) ≡ Ok p → (b ≡ true) × (r ≡ p)
name_by true s r p h = (refl, cc)
name_by false s r p h = absurd (cc)

name_is : (s name rest : List ℕ) → NameStands s name rest → (begins_name s ≡ true) × (run_at None s ≡ (name, rest))
name_is s name rest h = name_by (begins_name s) s (run_at None s) (name, rest) h

name_stands : (s : List ℕ) → begins_name s ≡ true → NameStands s (run_at None s).0 (run_at None s).1
name_stands s h = if_yes _ _ _ h

word_is : (s own rest : List ℕ) → WordStands s own rest → (begins_name s ≡ true) × (lower_run s ≡ own) × ((run_at None s).1 ≡ rest)
word_is s own rest (word {name = name} h) =
    let is = name_is s name rest h in
    (is.0, ap (λ (r : List ℕ × List ℕ). str_to_ascii_lowercase r.0) is.1, ap (λ (r : List ℕ × List ℕ). r.1) is.1)

word_stands : (s : List ℕ) → begins_name s ≡ true → WordStands s (lower_run s) (run_at None s).1
word_stands s h = word (name_stands s h)

same_word : (s text : List ℕ) → is_word s text ≡ true → lower_run s ≡ text
same_word s text h = (bytes_eq-Decides (lower_run s) text).0 h

-- Sound

after_byte_by : (b c : ℕ) (s rest : List ℕ) (v : Bool) → (c == b) ≡ v → (if v then Some s else None) ≡ Some rest → c ∷ s ≡ b ∷ rest
after_byte_by b c s rest true e h = let one = eqb-true c b e in cc
after_byte_by b c s rest false e h = absurd (cc)

after_byte_is : (b : ℕ) (s rest : List ℕ) → after_byte b s ≡ Some rest → s ≡ b ∷ rest
after_byte_is b [] rest h = absurd (cc)
after_byte_is b (c ∷ s) rest h = after_byte_by b c s rest (c == b) refl h

string_reads : (b : ℕ) (s : List ℕ) → is_quote b ≡ true → Reads (ValueStands (b ∷ s)) (string_by (b ∷ s) b (run_at (Some b) s))
string_reads b s q =
    let run = run_at (Some b) s in
    let step : (o : Option (List ℕ)) → after_byte b run.1 ≡ o
    → Reads (ValueStands (b ∷ s)) (elim o as (λ _. Read (List ℕ)) [ None ↦ wrong (b ∷ s) Unclosed | Some rest ↦ Ok (run.0, rest) ]) = elim [
      | None ↦ λ e. tt
      | Some rest ↦ λ e. quoted q (ap (λ (t : List ℕ). (run.0, t)) (after_byte_is b run.1 rest e))
    ] in
    step (after_byte b run.1) refl

value_reads : (opened : ℕ) (s : List ℕ) → Reads (ValueStands s) (value_at opened s)
value_reads opened [] = tt
value_reads opened (b ∷ s) = if_both (λ (r : Read (List ℕ)). Reads (ValueStands (b ∷ s)) r) (is_quote b) _ _ (λ q. string_reads b s q)
    (λ _. if_both (λ (r : Read (List ℕ)). Reads (ValueStands (b ∷ s)) r) (begins_name (b ∷ s)) _ _ (λ n. bare (name_stands (b ∷ s) n)) (λ _. tt))

flag_word : (s text : List ℕ) → begins_name s ≡ true → is_word s text ≡ true → WordStands s text (run_at None s).1
flag_word s text n w = subst (λ (own : List ℕ). WordStands s own (run_at None s).1) (same_word s text w) (word_stands s n)

flag_reads : (s : List ℕ) → Reads (FlagStands s) (flag_at s)
flag_reads s = if_both (λ (r : Read Case). Reads (FlagStands s) r) (begins_name s) _ _
    (λ n. if_both (λ (r : Read Case). Reads (FlagStands s) r) (is_word s (codes "i")) _ _ (λ w. folds (flag_word s (codes "i") n w))
    (λ _. if_both (λ (r : Read Case). Reads (FlagStands s) r) (is_word s (codes "s")) _ _ (λ w. exact (flag_word s (codes "s") n w)) (λ _. tt)))
    (λ none. no_flag none)

-- a key stands
data KeyIs : List ℕ → Space × Ident → List ℕ → Type 0 where
  key_is : {s name rest : List ℕ} {space : Space} → KeyStands s space name rest → KeyIs s (space, ident_of name) rest

abbrev keyed : Space × List ℕ → Read (Space × Ident)
keyed p = name_at p.1 >>= λ name. Ok ((p.0, ident_of name.0), name.1)

star_key : (b : ℕ) (s : List ℕ) (o : Option (List ℕ)) → (b == byte "*") ≡ true → after_byte (byte "|") (past_comments s) ≡ o → Reads (KeyIs (b ∷ s)) (keyed (starred_by (b ∷ s) o))
star_key b s None e is = reads_bind (KeyIs (b ∷ s)) (name_at (b ∷ s)) _ (λ name h. key_is (plain_key h))
star_key b s (Some rest) e is =
    let bar = after_byte_is (byte "|") (past_comments s) rest is in
    subst (λ (c : ℕ). Reads (KeyIs (c ∷ s)) (keyed (Every, past_comments rest))) (sym (eqb-true b (byte "*") e))
    (reads_bind (KeyIs (byte "*" ∷ s)) (name_at (past_comments rest)) _ (λ name h. key_is (every_space bar h)))

key_reads : (s : List ℕ) → Reads (KeyIs s) (key_at s)
key_reads [] = tt
key_reads (b ∷ s) = if_both (λ (p : Space × List ℕ). Reads (KeyIs (b ∷ s)) (keyed p)) (b == byte "|") _ _
    (λ e. subst (λ (c : ℕ). Reads (KeyIs (c ∷ s)) (keyed (Bare, past_comments s))) (sym (eqb-true b (byte "|") e))
    (reads_bind (KeyIs (byte "|" ∷ s)) (name_at (past_comments s)) _ (λ name h. key_is (bare_space h))))
    (λ _. if_both (λ (p : Space × List ℕ). Reads (KeyIs (b ∷ s)) (keyed p)) (b == byte "*") _ _ (λ e. star_key b s (after_byte (byte "|") (past_comments s)) e refl)
    (λ _. reads_bind (KeyIs (b ∷ s)) (name_at (b ∷ s)) _ (λ name h. key_is (plain_key h))))

close_reads : (P : Test → List ℕ → Type 0) (opened : ℕ) (s : List ℕ) (test : Test) → ((rest : List ℕ) → s ≡ byte "]" ∷ rest → P test rest)
    → Reads P (close_at opened s >>= λ rest. Ok (test, rest))
close_reads P opened [] test h = tt
close_reads P opened (b ∷ s) test h = if_both (λ (r : Result (List ℕ) Wrong). Reads P (r >>= λ rest. Ok (test, rest))) (b == byte "]") _ _
    (λ e. h s (ap (λ (b : ℕ). b ∷ s) (eqb-true b (byte "]") e))) (λ _. tt)

match_reads : (opened : ℕ) (s a own b c d : List ℕ) (t u : Bool) (space : Space) (op : Op) → GapStands s t a → KeyStands a space own b → GapStands b u c
    → op_at c ≡ Ok (op, d) → Reads (AttributeStands s) (match_at opened (space, ident_of own) op d)
match_reads opened s a own b c d t u space op gap name after is =
    reads_bind (AttributeStands s) (gap_at d) _ (λ e he.
    reads_then (ValueStands e.1) (AttributeStands s) (value_at opened e.1) _ (value_reads opened e.1) (λ f hf.
    reads_bind (AttributeStands s) (gap_at f.1) _ (λ g hg.
    reads_then (FlagStands g.1) (AttributeStands s) (flag_at g.1) _ (flag_reads g.1) (λ h hh.
    reads_bind (AttributeStands s) (gap_at h.1) _ (λ k hk.
    close_reads (AttributeStands s) opened k.1 (Value space (ident_of own) op f.0 h.0) (λ rest close.
    value gap name after is he hf hg hh k.0 (subst (λ (v : List ℕ). GapStands h.1 k.0 v) close hk)))))))

after_key_reads : (opened : ℕ) (s a own b c : List ℕ) (t u : Bool) (space : Space) → GapStands s t a → KeyStands a space own b → GapStands b u c
    → Reads (AttributeStands s) (after_key opened (space, ident_of own) c)
after_key_reads opened s a own b [] t u space gap name after = tt
after_key_reads opened s a own b (c ∷ rest) t u space gap name after =
    if_both (λ (r : Read Test). Reads (AttributeStands s) r) (c == byte "]") _ _
    (λ e. key gap name (subst (λ (c : ℕ). GapStands b u (c ∷ rest)) (eqb-true c (byte "]") e) after))
    (λ _. reads_bind (AttributeStands s) (op_at (c ∷ rest)) _ (λ op is. match_reads opened s a own b (c ∷ rest) op.1 t u space op.0 gap name after is))

keyed_reads : (opened : ℕ) (s a b : List ℕ) (t : Bool) (own : Space × Ident) → GapStands s t a → KeyIs a own b
    → Reads (AttributeStands s) (gap_at b >>= λ gap. after_key opened own gap.1)
keyed_reads opened s a b t own gap (key_is {name = name} {space = space} h) =
    reads_bind (AttributeStands s) (gap_at b) _ (λ c hc. after_key_reads opened s a name b c.1 t c.0 space gap h hc)

attribute_reads : (opened : ℕ) (s : List ℕ) → Reads (AttributeStands s) (attribute_at opened s)
attribute_reads opened s =
    reads_bind (AttributeStands s) (gap_at s) _ (λ a ha.
    reads_then (KeyIs a.1) (AttributeStands s) (key_at a.1) _ (key_reads a.1) (λ name hn.
    keyed_reads opened s a.1 name.1 a.0 name.0 ha hn))

-- what a pseudo-class is, after its `:`
abbrev PseudoIs : List ℕ → Simple → List ℕ → Type 0
PseudoIs s (Whole e) rest = PseudoStands s e rest
PseudoIs s (Opens role left) rest = ListBegins s role rest

begins_bracket : (s : List ℕ) → begins_argument s ≡ true → s ≡ byte "(" ∷ drop 1 s
begins_bracket [] h = absurd (cc)
begins_bracket (b ∷ s) h = ap (λ (b : ℕ). b ∷ s) (eqb-true b (byte "(") h)

argument_reads : (s : List ℕ) → Reads (λ left rest. s ≡ byte "(" ∷ rest) (argument_at s)
argument_reads s = if_both (λ (r : Read ℕ). Reads (λ left rest. s ≡ byte "(" ∷ rest) r) (begins_argument s) _ _ (λ h. begins_bracket s h) (λ _. tt)

both_true : (a b : Bool) → (a && b) ≡ true → (a ≡ true) × (b ≡ true)
both_true true b h = (refl, h)
both_true false b h = absurd (cc)

sibling_is : (link : Link) → is_sibling link ≡ true → link ≡ Sibling
sibling_is Parent h = absurd (cc)
sibling_is Sibling h = refl
sibling_is Twin h = absurd (cc)

of_word : (s : List ℕ) → is_word s (codes "of") ≡ true → WordStands s (codes "of") (run_at None s).1
of_word s h =
    let step : (o : Option (List ℕ × List ℕ)) → part_at None s ≡ o → WordStands s (codes "of") (run_at None s).1 = elim [
      | None ↦ λ e.
          let nothing : lower_run s ≡ [] = ap (λ (r : List ℕ × List ℕ). str_to_ascii_lowercase r.0) (run_none None s (sym e)) in
          let some : lower_run s ≡ codes "of" = same_word s (codes "of") h in
          let both : [] ≡ codes "of" = sym nothing ∙ some in
          absurd (cc)
      | Some found ↦ λ e. flag_word s (codes "of") (ap (λ (o : Option (List ℕ × List ℕ)). is_some o) e) h
    ] in
    step (part_at None s) refl

formula_reads : (s own a b c d : List ℕ) (opened : ℕ) (v w : Bool) (way : Way) (link : Link) (formula : Formula)
    → WordStands s own (byte "(" ∷ a) → pseudo_class own ≡ Some (p.Nth way link) → GapStands a v b → formula_at b ≡ Ok (formula, c) → GapStands c w d
    → Reads (PseudoIs s) (after_formula opened way link formula w d)
formula_reads s own a b c [] opened v w way link formula name is gap f after = tt
formula_reads s own a b c (x ∷ d) opened v w way link formula name is gap f after =
    if_both (λ (r : Read Simple). Reads (PseudoIs s) r) (x == byte ")") _ _
    (λ e. nth_class name is gap f (subst (λ (x : ℕ). GapStands c w (x ∷ d)) (eqb-true x (byte ")") e) after))
    (λ _. if_both (λ (r : Read Simple). Reads (PseudoIs s) r) (w && (is_sibling link && is_word (x ∷ d) (codes "of"))) _ _
    (λ e.
    let one = both_true w (is_sibling link && is_word (x ∷ d) (codes "of")) e in
    let two = both_true (is_sibling link) (is_word (x ∷ d) (codes "of")) one.1 in
    of_class name (subst (λ (link : Link). pseudo_class own ≡ Some (p.Nth way link)) (sibling_is link two.0) is) gap f
    (subst (λ (w : Bool). GapStands c w (x ∷ d)) one.0 after) (of_word (x ∷ d) two.1))
    (λ _. tt))

class_reads : (s own rest : List ℕ) (o : PseudoClass) → WordStands s own rest → pseudo_class own ≡ Some o → Reads (PseudoIs s) (class_at o rest)
class_reads s own rest (p.Edge way link) name is = if_both (λ (r : Read Simple). Reads (PseudoIs s) r) (begins_argument rest) _ _ (λ _. tt) (λ none. edge_class name is none)
class_reads s own rest (p.Only link) name is = if_both (λ (r : Read Simple). Reads (PseudoIs s) r) (begins_argument rest) _ _ (λ _. tt) (λ none. only_class name is none)
class_reads s own rest (p.Outermost anchor) name is = if_both (λ (r : Read Simple). Reads (PseudoIs s) r) (begins_argument rest) _ _ (λ _. tt) (λ none. anchor_class name is none)
class_reads s own rest p.Empty name is = if_both (λ (r : Read Simple). Reads (PseudoIs s) r) (begins_argument rest) _ _ (λ _. tt) (λ none. empty_class name is none)
class_reads s own rest (p.List role) name is =
    reads_then (λ left m. rest ≡ byte "(" ∷ m) (PseudoIs s) (argument_at rest) _ (argument_reads rest)
    (λ opened e. list_class (subst (λ (t : List ℕ). WordStands s own t) e name) is)
class_reads s own rest (p.Nth way link) name is =
    reads_then (λ left m. rest ≡ byte "(" ∷ m) (PseudoIs s) (argument_at rest) _ (argument_reads rest)
    (λ opened e. reads_bind (PseudoIs s) (gap_at opened.1) _ (λ gap hg.
    if_both (λ (r : Read Simple). Reads (PseudoIs s) r) (length gap.1 == 0) _ _ (λ _. tt)
    (λ _. reads_bind (PseudoIs s) (formula_at gap.1) _ (λ formula hf.
    reads_bind (PseudoIs s) (gap_at formula.1) _ (λ after ha.
    formula_reads s own opened.1 gap.1 formula.1 after.1 opened.0 gap.0 after.0 way link formula.0
    (subst (λ (t : List ℕ). WordStands s own t) e name) is hg hf ha)))))

by_reads : (s own rest : List ℕ) (o : Option PseudoClass) → WordStands s own rest → pseudo_class own ≡ o → Reads (PseudoIs s) (class_by o s rest)
by_reads s own rest None name is = tt
by_reads s own rest (Some o) name is = class_reads s own rest o name is

pseudo_reads : (colon s : List ℕ) → Reads (PseudoIs s) (pseudo_at colon s)
pseudo_reads colon s = if_both (λ (r : Read Simple). Reads (PseudoIs s) r) (begins (λ b. b == byte ":") s) _ _ (λ _. tt)
    (λ _. reads_bind (PseudoIs s) (name_at s) _ (λ name is.
    let run = name_is s name.0 name.1 is in
    by_reads s (lower_run s) name.1 (pseudo_class (lower_run s))
    (subst (λ (own : List ℕ). WordStands s own name.1) (ap (λ (r : List ℕ × List ℕ). str_to_ascii_lowercase r.0) (sym run.1)) (word is)) refl))

-- what a simple selector is, up to its list
abbrev pub SimpleIs : Bool → List ℕ → Simple → List ℕ → Type 0
SimpleIs first s (Whole e) rest = SimpleStands first s e rest
SimpleIs first s (Opens role left) rest = (m : List ℕ) × (s ≡ byte ":" ∷ m) × ListBegins (past_comments m) role rest

pseudo_simple : (first : Bool) (m : List ℕ) (x : Simple) (rest : List ℕ) → PseudoIs (past_comments m) x rest → SimpleIs first (byte ":" ∷ m) x rest
pseudo_simple first m (Whole e) rest h = pseudo h
pseudo_simple first m (Opens role left) rest h = (m, refl, h)

-- a byte that is this one, at the front
at_byte : (first : Bool) (b c : ℕ) (s : List ℕ) (r : Read Simple) → (b == c) ≡ true → Reads (SimpleIs first (c ∷ s)) r → Reads (SimpleIs first (b ∷ s)) r
at_byte first b c s r e h = subst (λ (b : ℕ). Reads (SimpleIs first (b ∷ s)) r) (sym (eqb-true b c e)) h

simple_reads : (first : Bool) (b : ℕ) (s : List ℕ) → Reads (SimpleIs first (b ∷ s)) (simple_at (b ∷ s))
simple_reads first b s =
    if_both (λ (r : Read Simple). Reads (SimpleIs first (b ∷ s)) r) (b == byte ":") _ _
    (λ e. at_byte first b (byte ":") s (pseudo_at (b ∷ s) (past_comments s)) e
    (reads_map (pseudo_at (b ∷ s) (past_comments s)) (pseudo_reads (b ∷ s) (past_comments s))))
    (λ _. if_both (λ (r : Read Simple). Reads (SimpleIs first (b ∷ s)) r) (b == byte "[") _ _
    (λ e. at_byte first b (byte "[") s _ e
    (reads_then (AttributeStands s) (SimpleIs first (byte "[" ∷ s)) (attribute_at (length (b ∷ s)) s) _ (attribute_reads (length (b ∷ s)) s) (λ test h. attribute h)))
    (λ _. if_both (λ (r : Read Simple). Reads (SimpleIs first (b ∷ s)) r) (b == byte "#") _ _
    (λ e. at_byte first b (byte "#") s _ e (reads_bind (SimpleIs first (byte "#" ∷ s)) (name_at s) _ (λ name h. id h)))
    (λ _. if_both (λ (r : Read Simple). Reads (SimpleIs first (b ∷ s)) r) (b == byte ".") _ _
    (λ e. at_byte first b (byte ".") s _ e (reads_bind (SimpleIs first (byte "." ∷ s)) (name_at (past_comments s)) _ (λ name h. class h)))
    (λ _. if_both (λ (r : Read Simple). Reads (SimpleIs first (b ∷ s)) r) (b == byte "&") _ _
    (λ e. at_byte first b (byte "&") s (Ok (Whole (outermost Scope), s)) e (nesting {first = first} {s = s}))
    (λ _. tt)))))
  where
    reads_map : (r : Read Simple) → Reads (PseudoIs (past_comments s)) r → Reads (SimpleIs first (byte ":" ∷ s)) r
    reads_map (Ok p) h = pseudo_simple first s p.0 p.1 h
    reads_map (Err w) h = tt

type_reads : (s : List ℕ) → Reads (TypeStands s) (type_at s)
type_reads [] = tt
type_reads (b ∷ s) = if_both (λ (r : Read Test). Reads (TypeStands (b ∷ s)) r) (b == byte "*") _ _
    (λ e. subst (λ (c : ℕ). TypeStands (c ∷ s) Any s) (sym (eqb-true b (byte "*") e)) any_type)
    (λ _. reads_bind (TypeStands (b ∷ s)) (name_at (b ∷ s)) _ (λ name h. named_type h))

no_bar_by : (v : Bool) (s : List ℕ) → (if v then Some s else None) ≡ None → v ≡ false
no_bar_by true s h = absurd (cc)
no_bar_by false s h = refl

no_bar : (s : List ℕ) → after_byte (byte "|") s ≡ None → begins_bar s ≡ false
no_bar [] h = refl
no_bar (b ∷ s) h = no_bar_by (b == byte "|") s h

star_reads : (s : List ℕ) (o : Option (List ℕ)) → after_byte (byte "|") (past_comments s) ≡ o → Reads (SimpleIs true (byte "*" ∷ s)) (star_by s o)
star_reads s None is = any (no_bar (past_comments s) is)
star_reads s (Some rest) is =
    let bar = after_byte_is (byte "|") (past_comments s) rest is in
    reads_then (TypeStands (past_comments rest)) (SimpleIs true (byte "*" ∷ s)) (type_at (past_comments rest)) _ (type_reads (past_comments rest)) (λ test h. every_type bar h)

first_reads_as : (b : ℕ) (s : List ℕ) → Reads (SimpleIs true (b ∷ s)) (first_at (b ∷ s))
first_reads_as b s = if_both (λ (r : Read Simple). Reads (SimpleIs true (b ∷ s)) r) (b == byte "*") _ _
    (λ e. at_byte true b (byte "*") s (star_by s (after_byte (byte "|") (past_comments s))) e (star_reads s (after_byte (byte "|") (past_comments s)) refl))
    (λ _. if_both (λ (r : Read Simple). Reads (SimpleIs true (b ∷ s)) r) (b == byte "|") _ _
    (λ e. at_byte true b (byte "|") s (type_at (past_comments s) >>= λ test. Ok (Whole nowhere, test.1)) e
    (reads_then (TypeStands (past_comments s)) (SimpleIs true (byte "|" ∷ s)) (type_at (past_comments s)) _ (type_reads (past_comments s)) (λ test h. bare_type h)))
    (λ _. if_both (λ (r : Read Simple). Reads (SimpleIs true (b ∷ s)) r) (begins_name (b ∷ s)) _ _ (λ n. type (name_stands (b ∷ s) n)) (λ _. simple_reads true b s)))

simples_read : (first : Bool) (s : List ℕ) → Reads (SimpleIs first s) (simple_by first s)
simples_read true [] = tt
simples_read false [] = tt
simples_read true (b ∷ s) = first_reads_as b s
simples_read false (b ∷ s) = simple_reads false b s

pub simple_is : (first : Bool) (s : List ℕ) (x : Simple) (rest : List ℕ) → simple_by first s ≡ Ok (x, rest) → SimpleIs first s x rest
simple_is first s x rest h = subst (λ (r : Read Simple). Reads (SimpleIs first s) r) h (simples_read first s)

-- Complete

bind_to : {A B : Type 0} (r : Read A) (f : A × List ℕ → Read B) (a : A × List ℕ) (y : B × List ℕ) → r ≡ Ok a → f a ≡ Ok y → (r >>= f) ≡ Ok y
bind_to r f a y h g = ap (λ r. r >>= f) h ∙ g

never : false ≡ true → ⊥
never h = cc

-- a name doesn't begin with this byte
not_byte : (b c : ℕ) (t : List ℕ) → begins_name (b ∷ t) ≡ true → begins_name (c ∷ t) ≡ false → (b == c) ≡ false
not_byte b c t h other = differs b c (λ (e : b ≡ c). never (sym other ∙ subst (λ (b : ℕ). begins_name (b ∷ t) ≡ true) e h))

after_bar : (s rest : List ℕ) → past_comments s ≡ byte "|" ∷ rest → after_byte (byte "|") (past_comments s) ≡ Some rest
after_bar s rest h = ap (λ (t : List ℕ). after_byte (byte "|") t) h

no_space : (s : List ℕ) → begins_name s ≡ true → space_at s ≡ (Bare, s)
no_space [] h = refl
no_space (b ∷ t) h = if_no _ _ _ (not_byte b (byte "|") t h refl) ∙ if_no _ _ _ (not_byte b (byte "*") t h refl)

key_read : (s own rest : List ℕ) (space : Space) → KeyStands s space own rest → key_at s ≡ Ok ((space, ident_of own), rest)
key_read s own rest space (plain_key h) = ap keyed (no_space s (name_is s own rest h).0) ∙ bind_to (name_at s) _ _ _ h refl
key_read s own rest space (bare_space {s = t} h) = bind_to (name_at (past_comments t)) _ _ _ h refl
key_read s own rest space (every_space {s = t} {a = a} bar h) =
    ap (λ (o : Option (List ℕ)). keyed (starred_by (byte "*" ∷ t) o)) (after_bar t a bar) ∙ bind_to (name_at (past_comments a)) _ _ _ h refl

bare_read : (opened : ℕ) (s own rest : List ℕ) → NameStands s own rest → value_at opened s ≡ Ok (own, rest)
bare_read opened [] own rest h = absurd (never (name_is [] own rest h).0)
bare_read opened (b ∷ t) own rest h =
    let is = name_is (b ∷ t) own rest h in
    let other : is_quote b ≡ false = ap (λ (v : Bool). v || (b == 0x27)) (not_byte b 0x22 t is.0 refl) ∙ not_byte b 0x27 t is.0 refl in
    if_no _ _ _ other ∙ (if_yes _ _ _ is.0 ∙ ap (λ (r : List ℕ × List ℕ). Ok r) is.1)

string_is : (s : List ℕ) (q : ℕ) (own rest : List ℕ) → string_by s q (own, q ∷ rest) ≡ Ok (own, rest)
string_is s q own rest =
    ap (λ (o : Option (List ℕ)). elim o as (λ _. Read (List ℕ)) [ None ↦ wrong s Unclosed | Some rest ↦ Ok (own, rest) ])
    (if_yes (q == q) (Some rest) None ((unsigned_Decides q q).1 refl))

value_read : (opened : ℕ) (s own rest : List ℕ) → ValueStands s own rest → value_at opened s ≡ Ok (own, rest)
value_read opened s own rest (bare h) = bare_read opened s own rest h
value_read opened s own rest (quoted {q = q} {s = t} is h) =
    if_yes _ _ _ is ∙ (ap (λ (r : List ℕ × List ℕ). string_by (q ∷ t) q r) h ∙ string_is (q ∷ t) q own rest)

flag_read : (s rest : List ℕ) (f : Case) → FlagStands s f rest → flag_at s ≡ Ok (f, rest)
flag_read s rest f (no_flag none) = if_no _ _ _ none
flag_read s rest f (folds h) =
    let is = word_is s (codes "i") rest h in
    if_yes _ _ _ is.0 ∙ (if_yes _ _ _ (ap (λ (own : List ℕ). bytes_eq own (codes "i")) is.1) ∙ ap (λ (r : List ℕ). Ok (Folded, r)) is.2)
flag_read s rest f (exact h) =
    let is = word_is s (codes "s") rest h in
    if_yes _ _ _ is.0 ∙ (if_no _ _ _ (ap (λ (own : List ℕ). bytes_eq own (codes "i")) is.1)
    ∙ (if_yes _ _ _ (ap (λ (own : List ℕ). bytes_eq own (codes "s")) is.1) ∙ ap (λ (r : List ℕ). Ok (Exact, r)) is.2))

no_op : (t : List ℕ) (r : Option (List ℕ)) (y : Op × List ℕ) → op_by (byte "]") t None r ≡ Ok y → ⊥
no_op t None y h = absurd (cc)
no_op t (Some rest) y h = absurd (cc)

after_key_read : (opened : ℕ) (own : Space × Ident) (c d : List ℕ) (op : Op) (y : Test × List ℕ) → op_at c ≡ Ok (op, d) → match_at opened own op d ≡ Ok y
    → after_key opened own c ≡ Ok y
after_key_read opened own [] d op y is h = absurd (cc)
after_key_read opened own (b ∷ t) d op y is h =
    if_no _ _ _ (differs b (byte "]") (λ (e : b ≡ byte "]"). no_op t (after_byte (byte "=") t) (op, d) (subst (λ (b : ℕ). op_at (b ∷ t) ≡ Ok (op, d)) e is)))
    ∙ bind_to (op_at (b ∷ t)) _ _ _ is h

attribute_read : (opened : ℕ) (s : List ℕ) (test : Test) (rest : List ℕ) → AttributeStands s test rest → attribute_at opened s ≡ Ok (test, rest)
attribute_read opened s test rest (key {a = a} {b = b} {key = own} {space = space} gap name after) =
    bind_to (gap_at s) _ _ _ gap (bind_to (key_at a) _ _ _ (key_read a own b space name) (bind_to (gap_at b) _ _ _ after refl))
attribute_read opened s test rest (value {a = a} {b = b} {c = c} {d = d} {e = e} {f = f} {g = g} {h = h} {key = own} {own = text} {space = space} {op = op} {case = flag} gap name after is before own_is behind flag_is x last) =
    bind_to (gap_at s) _ _ _ gap (bind_to (key_at a) _ _ _ (key_read a own b space name) (bind_to (gap_at b) _ _ _ after
    (after_key_read opened (space, ident_of own) c d op _ is
    (bind_to (gap_at d) _ _ _ before (bind_to (value_at opened e) _ _ _ (value_read opened e text f own_is)
    (bind_to (gap_at f) _ _ _ behind (bind_to (flag_at g) _ _ _ (flag_read g h flag flag_is) (bind_to (gap_at h) _ _ _ last refl))))))))

no_colon : (s : List ℕ) → begins_name s ≡ true → begins (λ b. b == byte ":") s ≡ false
no_colon [] h = refl
no_colon (b ∷ t) h = not_byte b (byte ":") t h refl

class_read : (colon s own rest : List ℕ) (o : PseudoClass) (y : Simple × List ℕ) → WordStands s own rest → pseudo_class own ≡ Some o
    → class_at o rest ≡ Ok y → pseudo_at colon s ≡ Ok y
class_read colon s own rest o y (word {name = name} h) is own_is =
    let run = name_is s name rest h in
    if_no _ _ _ (no_colon s run.0)
    ∙ bind_to (name_at s) _ _ _ h
    (ap (λ (r : List ℕ × List ℕ). class_by (pseudo_class (str_to_ascii_lowercase r.0)) s rest) run.1
    ∙ (ap (λ (o : Option PseudoClass). class_by o s rest) is ∙ own_is))

no_length : (b : ℕ) (s : List ℕ) → (length (b ∷ s) == 0) ≡ false
no_length b s = let none : (length (b ∷ s) == 0) ≡ false = grind arith in none

no_formula : (y : Formula × List ℕ) → formula_at [] ≡ Ok y → ⊥
no_formula y h = cc

nth_read : (opened : ℕ) (way : Way) (link : Link) (a b c d : List ℕ) (v w : Bool) (formula : Formula) (y : Simple × List ℕ)
    → GapStands a v b → formula_at b ≡ Ok (formula, c) → GapStands c w d → after_formula opened way link formula w d ≡ Ok y
    → nth_at opened way link a ≡ Ok y
nth_read opened way link a [] c d v w formula y gap f after is = absurd (no_formula (formula, c) f)
nth_read opened way link a (x ∷ b) c d v w formula y gap f after is =
    bind_to (gap_at a) _ _ _ gap (if_no _ _ _ (no_length x b) ∙ bind_to (formula_at (x ∷ b)) _ _ _ f (bind_to (gap_at c) _ _ _ after is))

pseudo_read : (colon s : List ℕ) (e : Css) (rest : List ℕ) → PseudoStands s e rest → pseudo_at colon s ≡ Ok (Whole e, rest)
pseudo_read colon s e rest (edge_class {word = own} {way = way} {link = link} name is plain) = class_read colon s own rest (p.Edge way link) _ name is (if_no _ _ _ plain)
pseudo_read colon s e rest (only_class {word = own} {link = link} name is plain) = class_read colon s own rest (p.Only link) _ name is (if_no _ _ _ plain)
pseudo_read colon s e rest (anchor_class {word = own} {anchor = anchor} name is plain) = class_read colon s own rest (p.Outermost anchor) _ name is (if_no _ _ _ plain)
pseudo_read colon s e rest (empty_class {word = own} name is plain) = class_read colon s own rest p.Empty _ name is (if_no _ _ _ plain)
pseudo_read colon s e rest (nth_class {word = own} {a = a} {b = b} {c = c} {v = v} {w = w} {way = way} {link = link} {formula = formula} name is gap f after) =
    class_read colon s own (byte "(" ∷ a) (p.Nth way link) _ name is
    (nth_read (length (byte "(" ∷ a)) way link a b c (byte ")" ∷ rest) v w formula _ gap f after refl)

of_read : (opened : ℕ) (way : Way) (formula : Formula) (d rest : List ℕ) → WordStands d (codes "of") rest
    → after_formula opened way Sibling formula true d ≡ Ok (Opens (NthOf way formula) opened, rest)
of_read opened way formula [] rest h = absurd (never (word_is [] (codes "of") rest h).0)
of_read opened way formula (x ∷ t) rest h =
    let is = word_is (x ∷ t) (codes "of") rest h in
    if_no _ _ _ (not_byte x (byte ")") t is.0 refl)
    ∙ (if_yes _ _ _ (ap (λ (own : List ℕ). bytes_eq own (codes "of")) is.1) ∙ ap (λ (r : List ℕ). Ok (Opens (NthOf way formula) opened, r)) is.2)

pub list_read : (first : Bool) (s : List ℕ) (role : Role) (rest : List ℕ) → ListBegins (past_comments s) role rest
    → (left : ℕ) × (simple_by first (byte ":" ∷ s) ≡ Ok (Opens role left, rest))
list_read true s role rest (list_class {word = own} name is) =
    (length (byte "(" ∷ rest), class_read (byte ":" ∷ s) (past_comments s) own (byte "(" ∷ rest) (p.List role) _ name is refl)
list_read false s role rest (list_class {word = own} name is) =
    (length (byte "(" ∷ rest), class_read (byte ":" ∷ s) (past_comments s) own (byte "(" ∷ rest) (p.List role) _ name is refl)
list_read true s role rest (of_class {word = own} {a = a} {b = b} {c = c} {d = d} {v = v} {way = way} {formula = formula} name is gap f after of) = (
  length (byte "(" ∷ a),
  class_read (byte ":" ∷ s) (past_comments s) own (byte "(" ∷ a) (p.Nth way Sibling) _ name is
      (nth_read (length (byte "(" ∷ a)) way Sibling a b c d v true formula _ gap f after (of_read (length (byte "(" ∷ a)) way formula d rest of)),
)
list_read false s role rest (of_class {word = own} {a = a} {b = b} {c = c} {d = d} {v = v} {way = way} {formula = formula} name is gap f after of) = (
  length (byte "(" ∷ a),
  class_read (byte ":" ∷ s) (past_comments s) own (byte "(" ∷ a) (p.Nth way Sibling) _ name is
      (nth_read (length (byte "(" ∷ a)) way Sibling a b c d v true formula _ gap f after (of_read (length (byte "(" ∷ a)) way formula d rest of)),
)

type_read : (s own rest : List ℕ) → NameStands s own rest → first_at s ≡ Ok (Whole (Is (Name (ident_of own))), rest)
type_read [] own rest h = absurd (never (name_is [] own rest h).0)
type_read (b ∷ t) own rest h =
    let is = name_is (b ∷ t) own rest h in
    if_no _ _ _ (not_byte b (byte "*") t is.0 refl)
    ∙ (if_no _ _ _ (not_byte b (byte "|") t is.0 refl)
    ∙ (if_yes _ _ _ is.0 ∙ ap (λ (r : List ℕ × List ℕ). Ok (Whole (Is (Name (ident_of r.0))), r.1)) is.1))

typed_read : (s : List ℕ) (test : Test) (rest : List ℕ) → TypeStands s test rest → type_at s ≡ Ok (test, rest)
typed_read s test rest any_type = refl
typed_read [] test rest (named_type {name = own} h) = absurd (never (name_is [] own rest h).0)
typed_read (b ∷ t) test rest (named_type {name = own} h) =
    if_no _ _ _ (not_byte b (byte "*") t (name_is (b ∷ t) own rest h).0 refl) ∙ bind_to (name_at (b ∷ t)) _ _ _ h refl

bar_none : (s : List ℕ) → begins_bar s ≡ false → after_byte (byte "|") s ≡ None
bar_none [] h = refl
bar_none (b ∷ s) h = if_no _ _ _ h

pub simple_read : (first : Bool) (s : List ℕ) (e : Css) (rest : List ℕ) → SimpleStands first s e rest → simple_by first s ≡ Ok (Whole e, rest)
simple_read first s e rest (any {s = t} none) = ap (star_by t) (bar_none (past_comments t) none)
simple_read first s e rest (every_type {s = t} {a = a} {test = test} bar h) =
    ap (star_by t) (after_bar t a bar) ∙ bind_to (type_at (past_comments a)) _ _ _ (typed_read (past_comments a) test rest h) refl
simple_read first s e rest (bare_type {s = t} {test = test} h) = bind_to (type_at (past_comments t)) _ _ _ (typed_read (past_comments t) test rest h) refl
simple_read first s e rest (type {name = own} h) = type_read s own rest h
simple_read true s e rest nesting = refl
simple_read false s e rest nesting = refl
simple_read true s e rest (id {s = t} h) = bind_to (name_at t) _ _ _ h refl
simple_read false s e rest (id {s = t} h) = bind_to (name_at t) _ _ _ h refl
simple_read true s e rest (class {s = t} h) = bind_to (name_at (past_comments t)) _ _ _ h refl
simple_read false s e rest (class {s = t} h) = bind_to (name_at (past_comments t)) _ _ _ h refl
simple_read true s e rest (attribute {s = t} {test = test} h) = bind_to (attribute_at (length (byte "[" ∷ t)) t) _ _ _ (attribute_read (length (byte "[" ∷ t)) t test rest h) refl
simple_read false s e rest (attribute {s = t} {test = test} h) = bind_to (attribute_at (length (byte "[" ∷ t)) t) _ _ _ (attribute_read (length (byte "[" ∷ t)) t test rest h) refl
simple_read true s e rest (pseudo {s = t} h) = pseudo_read (byte ":" ∷ t) (past_comments t) e rest h
simple_read false s e rest (pseudo {s = t} h) = pseudo_read (byte ":" ∷ t) (past_comments t) e rest h
