-- A doctype that is being read, in words of `tl_html_spec`.
use Rattle.std.specs.Prelude.{Bool, List, None, Option, Some, [], if◌then◌else◌, ℕ, ◌&&◌, ◌==◌, ◌∷◌}
use Rattle.tl_html_spec.specs.Doctypes.{Doctyping, Part, bogus_rest, in_name, name_end, name_start, public_end, public_quoted, public_start, system_end, system_quoted, system_start}
use Rattle.tl_html_doctype.specs.declared.doctype_reader.DoctypePart.{DoctypePart}
use Rattle.tl_html_doctype.specs.declared.doctype_reader.DoctypePart.TheVariants as part
use Rattle.tl_html_doctype.specs.declared.doctype_reader.DoctypeReader.{DoctypeReader}
use Rattle.tl_html_doctype.specs.declared.doctype_reader.Identifier.{Identifier}

-- with what was read of `public` or `system`
abbrev pub part_of : DoctypePart → List ℕ → Part
part_of part.NameStart word = name_start
part_of part.InName word = in_name
part_of part.NameEnd word = name_end word
part_of part.PublicStart word = public_start
part_of (part.PublicQuoted quote) word = public_quoted quote
part_of part.PublicEnd word = public_end
part_of part.SystemStart word = system_start
part_of (part.SystemQuoted quote) word = system_quoted quote
part_of part.SystemEnd word = system_end
part_of part.BogusRest word = bogus_rest

abbrev pub id_of : Identifier → Option (List ℕ)
id_of i = if i.is_there then Some i.bytes.items else None

abbrev pub doctyping_of : DoctypeReader → Doctyping
doctyping_of r = record {
  part = part_of r.part r.word.items;
  own = record {
    name = r.name.items;
    public_id = id_of r.public_id;
    system_id = id_of r.system_id;
    forces_quirks = r.forces_quirks;
  };
}

-- a line feed after a carriage return is none
abbrev pub without_feed : Bool → List ℕ → List ℕ
without_feed after_return [] = []
without_feed after_return (c ∷ text) = if after_return && (c == 10) then text else c ∷ text
