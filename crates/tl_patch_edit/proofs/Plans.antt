-- What each patch asks for, by how far its element goes.
use Rattle.std.proofs.Common.{◌≡◌, ℕ, suc, Bool, true, false, List, [], ◌∷◌, Option, Some, None, refl, ap, sym, ◌∙◌, if◌then◌else◌, true≢false}
use Rattle.std.specs.Prelude.{option_map}
use Rattle.tl_patch_spec.specs.Patches.{Alone, Append, Changed, Content, Dropped, Extent, Fill, Implied, NewContent, NewEndTag, Prepend, Put, PutAfter, PutBefore, Remove, RenameElement, ReplaceWith, Unclosed, Unwrap, Whole, asked, cut_out, may_be_renamed, put_at, put_instead}
use Rattle.tl_patch_spec.specs.Splices.{Splice}
use Rattle.tl_patch_spec.specs.TagChanges.{Rename}
use Rattle.tl_patch_edit.specs.Asks.{ends_page, inner_end, inside_end, tags_asked, until_of}

abbrev pub is_implied : Extent → Bool
is_implied (Implied m) = true
is_implied _ = false

remove_is : (e : Extent) (n : ℕ) (name : List ℕ) → asked Remove n e name ≡ option_map (λ u. cut_out n u ∷ []) (until_of n e)
remove_is Dropped n name = refl
remove_is Alone n name = refl
remove_is (Whole m) n name = refl
remove_is (Implied m) n name = refl
remove_is (Unclosed m) n name = refl

replace_is : (e : Extent) (n : ℕ) (c : Content) (name : List ℕ) → asked (ReplaceWith c) n e name ≡ option_map (λ u. put_instead n u (NewContent c ∷ []) ∷ []) (until_of n e)
replace_is Dropped n c name = refl
replace_is Alone n c name = refl
replace_is (Whole m) n c name = refl
replace_is (Implied m) n c name = refl
replace_is (Unclosed m) n c name = refl

fill_is : (e : Extent) (n : ℕ) (c : Content) (name : List ℕ) → asked (Fill c) n e name ≡ option_map (λ m. put_instead (suc n) m (NewContent c ∷ []) ∷ []) (inner_end e)
fill_is Dropped n c name = refl
fill_is Alone n c name = refl
fill_is (Whole m) n c name = refl
fill_is (Implied m) n c name = refl
fill_is (Unclosed m) n c name = refl

append_is : (e : Extent) (n : ℕ) (c : Content) (name : List ℕ) → asked (Append c) n e name ≡ option_map (λ m. put_at m (NewContent c ∷ []) ∷ []) (inner_end e)
append_is Dropped n c name = refl
append_is Alone n c name = refl
append_is (Whole m) n c name = refl
append_is (Implied m) n c name = refl
append_is (Unclosed m) n c name = refl

before_is : (e : Extent) (n : ℕ) (c : Content) (name : List ℕ) → asked (PutBefore c) n e name ≡ Some (put_at n (NewContent c ∷ []) ∷ [])
before_is Dropped n c name = refl
before_is Alone n c name = refl
before_is (Whole m) n c name = refl
before_is (Implied m) n c name = refl
before_is (Unclosed m) n c name = refl

abbrev after_if : Bool → List (Splice Put) → Option (List (Splice Put))
after_if ends splices = if ends then None else Some splices

after_is : (e : Extent) (n : ℕ) (c : Content) (name : List ℕ) → ends_page e name ≡ false → asked (PutAfter c) n e name ≡ option_map (λ u. put_at u (NewContent c ∷ []) ∷ []) (until_of n e)
after_is Dropped n c name h = refl
after_is Alone n c name h = refl
after_is (Whole m) n c name h = ap (λ v. after_if v (put_at (suc m) (NewContent c ∷ []) ∷ [])) h
after_is (Implied m) n c name h = ap (λ v. after_if v (put_at m (NewContent c ∷ []) ∷ [])) h
after_is (Unclosed m) n c name h = refl

prepend_is : (e : Extent) (n : ℕ) (c : Content) (name : List ℕ) → asked (Prepend c) n e name ≡ option_map (λ m. put_at (suc n) (NewContent c ∷ []) ∷ []) (inside_end e)
prepend_is Dropped n c name = refl
prepend_is Alone n c name = refl
prepend_is (Whole m) n c name = refl
prepend_is (Implied m) n c name = refl
prepend_is (Unclosed m) n c name = refl

pub unwrap_is : (e : Extent) (n : ℕ) (name : List ℕ) → asked Unwrap n e name ≡ tags_asked n e []
unwrap_is Dropped n name = refl
unwrap_is Alone n name = refl
unwrap_is (Whole m) n name = refl
unwrap_is (Implied m) n name = refl
unwrap_is (Unclosed m) n name = refl

-- what the code asks for

pub removes : (e : Extent) (n : ℕ) (u : Option ℕ) (name : List ℕ) → u ≡ until_of n e → asked Remove n e name ≡ option_map (λ v. cut_out n v ∷ []) u
removes e n u name h = remove_is e n name ∙ ap (option_map (λ v. cut_out n v ∷ [])) (sym h)

pub replaces : (e : Extent) (n : ℕ) (u : Option ℕ) (c : Content) (name : List ℕ) → u ≡ until_of n e → asked (ReplaceWith c) n e name ≡ option_map (λ v. put_instead n v (NewContent c ∷ []) ∷ []) u
replaces e n u c name h = replace_is e n c name ∙ ap (option_map (λ v. put_instead n v (NewContent c ∷ []) ∷ [])) (sym h)

pub fills : (e : Extent) (n k : ℕ) (m : Option ℕ) (c : Content) (name : List ℕ) → m ≡ inner_end e → k ≡ suc n → asked (Fill c) n e name ≡ option_map (λ v. put_instead k v (NewContent c ∷ []) ∷ []) m
fills e n k m c name h i =
    fill_is e n c name ∙ ap (option_map (λ v. put_instead (suc n) v (NewContent c ∷ []) ∷ [])) (sym h)
    ∙ ap (λ x. option_map (λ v. put_instead x v (NewContent c ∷ []) ∷ []) m) (sym i)

pub prepends : (e : Extent) (n k : ℕ) (m : Option ℕ) (c : Content) (name : List ℕ) → m ≡ inside_end e → k ≡ suc n → asked (Prepend c) n e name ≡ option_map (λ v. put_at k (NewContent c ∷ []) ∷ []) m
prepends e n k m c name h i =
    prepend_is e n c name ∙ ap (option_map (λ v. put_at (suc n) (NewContent c ∷ []) ∷ [])) (sym h)
    ∙ ap (λ x. option_map (λ (v : ℕ). put_at x (NewContent c ∷ []) ∷ []) m) (sym i)

pub appends : (e : Extent) (n : ℕ) (m : Option ℕ) (c : Content) (name : List ℕ) → m ≡ inner_end e → asked (Append c) n e name ≡ option_map (λ v. put_at v (NewContent c ∷ []) ∷ []) m
appends e n m c name h = append_is e n c name ∙ ap (option_map (λ v. put_at v (NewContent c ∷ []) ∷ [])) (sym h)

pub puts_before : (e : Extent) (n : ℕ) (c : Content) (name : List ℕ) → asked (PutBefore c) n e name ≡ Some (put_at n (NewContent c ∷ []) ∷ [])
puts_before e n c name = before_is e n c name

pub puts_behind : (e : Extent) (n : ℕ) (u : Option ℕ) (c : Content) (name : List ℕ) → ends_page e name ≡ false → u ≡ until_of n e → asked (PutAfter c) n e name ≡ option_map (λ v. put_at v (NewContent c ∷ []) ∷ []) u
puts_behind e n u c name l h = after_is e n c name l ∙ ap (option_map (λ v. put_at v (NewContent c ∷ []) ∷ [])) (sym h)

-- nothing can stand after an element that goes to the end of the page
pub none_behind : (e : Extent) (n : ℕ) (c : Content) (name : List ℕ) → ends_page e name ≡ true → asked (PutAfter c) n e name ≡ None
none_behind (Implied m) n c name h = ap (λ v. after_if v (put_at m (NewContent c ∷ []) ∷ [])) h
none_behind Dropped n c name h = refl
none_behind Alone n c name h = absurd (true≢false (sym h))
none_behind (Whole m) n c name h = ap (λ v. after_if v (put_at (suc m) (NewContent c ∷ []) ∷ [])) h
none_behind (Unclosed m) n c name h = refl

-- names

abbrev renamed_if : Bool → List (Splice Put) → Option (List (Splice Put))
renamed_if may splices = if may then Some splices else None

-- an element whose name can't be changed so
pub rename_not : (e : Extent) (n : ℕ) (old new : List ℕ) → may_be_renamed old new ≡ false → asked (RenameElement new) n e old ≡ None
rename_not Dropped n old new h = refl
rename_not Alone n old new h = ap (λ v. renamed_if v (put_instead n (suc n) (Changed (Rename new) ∷ []) ∷ [])) h
rename_not (Whole m) n old new h =
    ap (λ v. renamed_if v (put_instead n (suc n) (Changed (Rename new) ∷ []) ∷ put_instead m (suc m) (Changed (Rename new) ∷ []) ∷ [])) h
rename_not (Implied m) n old new h =
    ap (λ v. renamed_if v (put_instead n (suc n) (Changed (Rename new) ∷ []) ∷ put_at m (NewEndTag new ∷ []) ∷ [])) h
rename_not (Unclosed m) n old new h = refl
