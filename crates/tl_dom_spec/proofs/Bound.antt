-- A token is done with before it was reprocessed as often as `bound` says.
use Rattle.std.proofs.Common.{Bool, List, [], ap, arith, false, if◌then◌else◌, inl, inr, length, refl, suc, sym, true, true≢false, zero, ℕ, ◌<◌, ◌∷◌, ◌≡◌, ◌≤◌}
use Rattle.std.specs.Prelude.{◌*◌, ◌+◌}
use Rattle.std.proofs.lemmas.Bool.{and_right, cases_Bool, cond_both}
use Rattle.tl_dom_spec.specs.Tags.{Tag, is_html, is_table, is_template}
use Rattle.tl_dom_spec.specs.Groups.{Group, a_break, a_paragraph, a_table, group}
use Rattle.tl_dom_spec.specs.Path.{Path, elements}
use Rattle.tl_dom_spec.specs.Builder.{Again, Builder, Done, Mode, Outcome, Token, a_character, a_comment, a_doctype, a_start, adjusted_current_node, an_end, end_of_file, in_column_group, in_row, in_table, in_table_body, in_table_text, repeated, text_mode}
use Rattle.tl_dom_spec.specs.Dispatcher.{Found, bound, breaks_out, broken_out, by_mode, calm, dispatch, foreign_end, foreign_end_at, foreign_start, foreign_step, found_in, html_step, is_html_content, nothing, the_frame}
use Rattle.tl_dom_spec.specs.Lawful.{IsDoneWith, IsSteady, is_done_within}
use Rattle.tl_dom_spec.proofs.PathTags.{closed-tags, open-tags, settled_while-Rooted, settled_while-end, tags}
use Rattle.tl_dom_spec.proofs.Measure.{Less, below-most, character_left, count, end-count, end-most, end_left, file-most, file_left, is_head, is_head_group, left_of, quiet_left, start-most, start_left, template_group}
use Rattle.tl_dom_spec.proofs.Falling.{mode-less}
use Rattle.tl_dom_spec.proofs.Staying.{SteadyAfter, mode-steady}

-- the dispatcher

less-more : (token : Token) (n m : ℕ) (o : Outcome) → n ≤ m → Less token n o → Less token m o
less-more token n m (Done b) l h = tt
less-more token n m (Again b) l h = omega (arith, l, h)

-- with more tables there is more left of a start tag

table-grows : (g : Group) (m : Mode) (c d : ℕ) → c ≤ d → start_left g m c ≤ start_left g m d
table-grows g in_table_text c d l = omega (arith, l)
table-grows a_table in_table c d l = omega (arith, l)
table-grows a_table in_table_body c d l = omega (arith, l)
table-grows a_table in_row c d l = omega (arith, l)
table-grows a_table in_column_group c d l = omega (arith, l)
table-grows _ _ c d l = omega arith

broken-steady : (b : Builder) → IsSteady b → IsSteady (broken_out b)
broken-steady b r = (settled_while-Rooted _ b.path b.path r.0, r.1, r.2, r.3)

foreign_start-less : (b : Builder) (g : Group) (t : Tag) (closes : Bool) → IsSteady b → Less (a_start g t closes) (left_of (a_start g t closes) b.mode b) (foreign_start b g t closes)
foreign_start-less b g t closes r =
    let token : Token = a_start g t closes in
    let fewer : count is_table (tags (broken_out b).path) ≤ count is_table (tags b.path) =
    end-count is_table (tags b.path) (tags (broken_out b).path) (settled_while-end _ b.path b.path) in
    cond_both (breaks_out t) (html_step (broken_out b) token) _ (Less token (left_of token b.mode b))
    (λ _. less-more token (left_of token b.mode (broken_out b)) (left_of token b.mode b) (html_step (broken_out b) token)
    (table-grows g b.mode (count is_table (tags (broken_out b).path)) (count is_table (tags b.path)) fewer)
    (mode-less b.mode (broken_out b) token (broken-steady b r)))
    (λ _. tt)

foreign_start-steady : (b : Builder) (g : Group) (t : Tag) (closes : Bool) → IsSteady b → SteadyAfter (foreign_start b g t closes)
foreign_start-steady b g t closes r =
    cond_both (breaks_out t) (html_step (broken_out b) (a_start g t closes)) _ SteadyAfter
    (λ _. mode-steady b.mode (broken_out b) (a_start g t closes) refl (broken-steady b r)) (λ _. tt)

end_at-less : (found : Found) (b : Builder) (g : Group) (name : List ℕ) → IsSteady b → Less (an_end g name) (left_of (an_end g name) b.mode b) (foreign_end_at found b g name)
end_at-less (the_frame k) b g name r = tt
end_at-less by_mode b g name r = mode-less b.mode b (an_end g name) r
end_at-less nothing b g name r = tt

end_at-steady : (found : Found) (b : Builder) (g : Group) (name : List ℕ) → IsSteady b → SteadyAfter (foreign_end_at found b g name)
end_at-steady (the_frame k) b g name r = tt
end_at-steady by_mode b g name r = mode-steady b.mode b (an_end g name) refl r
end_at-steady nothing b g name r = tt

foreign_end-less : (b : Builder) (g : Group) (name : List ℕ) → IsSteady b → Less (an_end g name) (left_of (an_end g name) b.mode b) (foreign_end b g name)
foreign_end-less b a_break name r = mode-less b.mode (broken_out b) (an_end a_break name) (broken-steady b r)
foreign_end-less b a_paragraph name r = mode-less b.mode (broken_out b) (an_end a_paragraph name) (broken-steady b r)
foreign_end-less b g name r = end_at-less (found_in name (elements b.path)) b g name r

foreign_end-steady : (b : Builder) (g : Group) (name : List ℕ) → IsSteady b → SteadyAfter (foreign_end b g name)
foreign_end-steady b a_break name r = mode-steady b.mode (broken_out b) (an_end a_break name) refl (broken-steady b r)
foreign_end-steady b a_paragraph name r = mode-steady b.mode (broken_out b) (an_end a_paragraph name) refl (broken-steady b r)
foreign_end-steady b g name r = end_at-steady (found_in name (elements b.path)) b g name r

foreign-less : (b : Builder) (token : Token) → IsSteady b → Less token (left_of token b.mode b) (foreign_step b token)
foreign-less b (a_character c) r = tt
foreign-less b (a_comment bytes) r = tt
foreign-less b (a_doctype own) r = tt
foreign-less b (a_start g t closes) r = foreign_start-less b g t closes r
foreign-less b (an_end g name) r = foreign_end-less b g name r
foreign-less b end_of_file r = mode-less b.mode b end_of_file r

foreign-steady : (b : Builder) (token : Token) → IsSteady b → SteadyAfter (foreign_step b token)
foreign-steady b (a_character c) r = tt
foreign-steady b (a_comment bytes) r = tt
foreign-steady b (a_doctype own) r = tt
foreign-steady b (a_start g t closes) r = foreign_start-steady b g t closes r
foreign-steady b (an_end g name) r = foreign_end-steady b g name r
foreign-steady b end_of_file r = mode-steady b.mode b end_of_file refl r

dispatch-less : (token : Token) (b : Builder) → IsSteady b → Less token (left_of token b.mode b) (dispatch token b)
dispatch-less token b r =
    cond_both (is_html_content (adjusted_current_node b) token) (html_step b token) (foreign_step b token) (Less token (left_of token b.mode b))
    (λ _. mode-less b.mode b token r) (λ _. foreign-less b token r)

dispatch-steady : (token : Token) (b : Builder) → IsSteady b → SteadyAfter (dispatch token b)
dispatch-steady token b r =
    cond_both (is_html_content (adjusted_current_node b) token) (html_step b token) (foreign_step b token) SteadyAfter
    (λ _. mode-steady b.mode b token refl r) (λ _. foreign-steady b token r)

-- what is left comes to an end

done-within : (n : ℕ) (token : Token) (o : Outcome) → SteadyAfter o → Less token n o → is_done_within n (dispatch token) o ≡ true
done-within n token (Done b) r l = refl
done-within zero token (Again b) r l = absurd (omega (arith, l))
done-within (suc n) token (Again b) r l =
    done-within n token (dispatch token b) (dispatch-steady token b r)
    (less-more token (left_of token b.mode b) n (dispatch token b) (omega (arith, l)) (dispatch-less token b r))

-- and is less than the bound

count-length : (test : Tag → Bool) (ts : List Tag) → count test ts ≤ length ts
count-length test [] = omega arith
count-length test (t ∷ ts) = cond_both (test t) _ _ (λ (x : ℕ). x ≤ suc (length ts)) (λ _. omega (arith, count-length test ts)) (λ _. omega (arith, count-length test ts))

template_no_head : (t : Tag) → is_template t ≡ true → is_head t ≡ false
template_no_head t e = and_right (is_html t) (is_head_group (group t.name)) (ap is_head_group (template_group t e).1)

-- no element is a template and a `head`
both-length : (ts : List Tag) → count is_template ts + count is_head ts ≤ length ts
both-length [] = omega arith
both-length (t ∷ ts) = elim (cases_Bool (is_template t)) [
  | inl y ↦ (
      let n : count is_template (t ∷ ts) ≡ suc (count is_template ts) = ap (λ (v : Bool). if v then suc (count is_template ts) else count is_template ts) y in
      let k : count is_head (t ∷ ts) ≡ count is_head ts = ap (λ (v : Bool). if v then suc (count is_head ts) else count is_head ts) (template_no_head t y) in
      omega (arith, n, k, both-length ts))
  | inr m ↦ (
      let n : count is_template (t ∷ ts) ≡ count is_template ts = ap (λ (v : Bool). if v then suc (count is_template ts) else count is_template ts) m in
      let k : count is_head (t ∷ ts) ≤ suc (count is_head ts) =
      cond_both (is_head t) _ _ (λ (x : ℕ). x ≤ suc (count is_head ts)) (λ _. omega arith) (λ _. omega arith) in
      omega (arith, n, k, both-length ts))
]

tags-length : (path : Path) → length (tags path) ≤ length path
tags-length [] = omega arith
tags-length (f ∷ path) = elim (cases_Bool f.is_open) [
  | inl y ↦ (let e = ap length (open-tags f path y) in omega (arith, e, tags-length path))
  | inr n ↦ (let e = ap length (closed-tags f path n) in omega (arith, e, tags-length path))
]

start-all : (g : Group) (m : Mode) (c : ℕ) → start_left g m c ≤ 6 + 2 * c
start-all g in_table_text c = omega arith
start-all g text_mode c = omega arith
start-all g m c = omega (arith, start-most g m c refl)

end-all : (g : Group) (m : Mode) → end_left g m ≤ 7
end-all g in_table_text = omega arith
end-all g text_mode = omega arith
end-all g m = omega (arith, end-most g m refl)

file-all : (h : Bool) (m : Mode) → file_left h m ≤ 6
file-all h in_table_text = omega arith
file-all h text_mode = omega arith
file-all h m = omega (arith, file-most h m refl)

character-all : (m : Mode) → character_left m ≤ 5
character-all in_column_group = omega arith
character-all _ = omega arith

quiet-all : (m : Mode) → quiet_left m ≤ 1
quiet-all in_table_text = omega arith
quiet-all _ = omega arith

left-bound : (token : Token) (b : Builder) → left_of token b.mode b < bound b
left-bound (a_character c) b = omega (arith, character-all b.mode)
left-bound (a_comment bytes) b = omega (arith, quiet-all b.mode)
left-bound (a_doctype own) b = omega (arith, quiet-all b.mode)
left-bound (a_start g t closes) b =
    omega (arith, start-all g b.mode (count is_table (tags b.path)), count-length is_table (tags b.path), tags-length b.path)
left-bound (an_end g name) b = omega (arith, end-all g b.mode)
left-bound end_of_file b =
    omega (arith, file-all b.has_head b.mode, below-most (tags b.path), both-length (tags b.path), count-length is_template (tags b.path), tags-length b.path)

pub bound_suffices : (token : Token) (b : Builder) → IsSteady b → IsDoneWith b token
bound_suffices token b r = done-within (bound b) token (Again (calm b)) r (left-bound token b)

-- so more makes no difference
pub more_is_same : (step : Builder → Outcome) (o : Outcome) (n m : ℕ) → is_done_within n step o ≡ true → n ≤ m → repeated m step o ≡ repeated n step o
more_is_same step (Done b) n m e l = refl
more_is_same step (Again b) zero m e l = absurd (true≢false (sym e))
more_is_same step (Again b) (suc n) zero e l = absurd (omega (arith, l))
more_is_same step (Again b) (suc n) (suc m) e l = more_is_same step (step b) n m e (omega (arith, l))
