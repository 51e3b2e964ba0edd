-- What goes with an attribute that is taken out of a tag, and what stands in its place.
use Rattle.std.specs.Prelude.{ℕ, zero, suc, ◌-◌, ◌+◌, Bool, true, false, not, ◌||◌, ◌==◌, List, [], ◌∷◌, drop, codes, nat_lt, slice_index, if◌then◌else◌}
use Rattle.tl_html_parts.specs.Bytes.{is_space}
use Rattle.tl_patch_spec.specs.Splices.{Splice}
use Rattle.tl_patch.specs.AttributePlaces.{is_named}
use Rattle.tl_patch.specs.declared.cut.Follow.{Follow}
use Rattle.tl_patch.specs.declared.stage.Place.{Place}

-- white space, or a `/` between attributes
abbrev pub is_blank : ℕ → Bool
is_blank b = is_space b || (b == 47)

-- whether no `=` follows, after white space
abbrev pub free_after : List ℕ → Bool
free_after [] = false
free_after (b ∷ text) = if is_space b then free_after text else not (b == 61)

-- whether a key ends before this, and has no value
abbrev pub is_free : List ℕ → Bool
is_free [] = false
is_free (b ∷ text) = if is_space b then free_after text else (b == 47) || (b == 62)

-- whether a value without quotes ends before this
abbrev pub opens : List ℕ → Bool
opens [] = false
opens (b ∷ text) = is_space b || (b == 62)

-- whether the tag ends here
abbrev pub over : List ℕ → Bool
over [] = false
over (b ∷ text) = b == 62

-- where the white space right before a place begins, of so many bytes after another place
abbrev pub space_before : ℕ → ℕ → List ℕ → ℕ
space_before zero from rest = from
space_before (suc n) from rest =
    if is_space (slice_index rest (from + n)) then space_before n from rest else from + suc n

abbrev pub space_start : List ℕ → ℕ → ℕ → ℕ
space_start rest from until = space_before (until - from) from rest

-- from where an attribute goes whose key begins at a place, after the one before it and perhaps
-- white space, by the first byte that follows in its place and whether that is no `=`; and what
-- stands there instead
abbrev pub cut_from : ℕ → ℕ → ℕ → Bool → ℕ
cut_from space start first free =
    if free then if (first == 62) || is_space first then space else start
    else start

abbrev pub cut_put : ℕ → ℕ → ℕ → ℕ → Bool → List ℕ
cut_put last space start first free =
    if free then if first == 62 then if nat_lt last space then codes " " else []
    else if is_space first || nat_lt space start then [] else codes " "
    else codes "/"

-- what follows a place: the first byte, and whether no `=` comes after white space
abbrev pub follow_at : List ℕ → ℕ → Follow
follow_at rest at = record { first = slice_index rest at; is_free = free_after (drop at rest) }

-- an attribute that goes, after the end of the one before it
abbrev pub cut_splice : List ℕ → ℕ → Place → Follow → Splice ℕ
cut_splice rest last p f =
    let space : ℕ = space_start rest last p.key.start in record {
      from = cut_from space p.key.start f.first f.is_free;
      until = p.end;
      put = cut_put last space p.key.start f.first f.is_free;
    }

abbrev pub first_of : List ℕ → ℕ → ℕ
first_of [] first = first
first_of (b ∷ put) first = b

-- what follows the end of the attribute before, then
abbrev pub follow_cut : List ℕ → ℕ → Splice ℕ → Follow → Follow
follow_cut rest last s f = record {
  first = if nat_lt last s.from then slice_index rest last else first_of s.put f.first;
  is_free = true;
}

pub record Cutting : Type 0 where
  pub splices : List (Splice ℕ)
  pub follow : Follow

abbrev pub cut_if : Bool → List ℕ → ℕ → Place → Cutting → Cutting
cut_if true rest last p c =
    let s : Splice ℕ = cut_splice rest last p c.follow in record {
      splices = s ∷ c.splices;
      follow = follow_cut rest last s c.follow;
    }
cut_if false rest last p c = record { splices = c.splices; follow = follow_at rest last }

-- the attributes with a key go, from the last to the first
abbrev pub cuts_of : List ℕ → List ℕ → ℕ → List Place → Cutting
cuts_of rest key last [] = record { splices = []; follow = follow_at rest last }
cuts_of rest key last (p ∷ places) =
    cut_if (is_named rest key p) rest last p (cuts_of rest key p.end places)

-- where the attribute of a number ends, and where those before a number do
abbrev pub end_at : List Place → ℕ → ℕ
end_at [] n = 0
end_at (p ∷ places) zero = p.end
end_at (p ∷ places) (suc n) = end_at places n

abbrev pub last_before : List Place → ℕ → ℕ
last_before places zero = 0
last_before places (suc n) = end_at places n
