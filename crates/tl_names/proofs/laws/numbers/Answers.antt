use Rattle.std.proofs.Common.{sym}
use Rattle.tl_names.proofs.ElementNames.{bytes_of_name, name_of_other, same_number}
use Rattle.tl_names.proofs.TagSets.{class_of_name}
use Rattle.tl_names.proofs.laws.numbers.Goals as goal

pub returns : goal.returns
returns c = record {
  name = bytes_of_name;
  other = λ n o. sym (name_of_other n o);
  same = same_number;
  class = class_of_name;
}
