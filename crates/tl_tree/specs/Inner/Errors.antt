-- Why a page was not read, by why nothing more could be put in.
use Rattle.tl_tree.specs.declared.error.GrowError.{GrowError}
use Rattle.tl_tree.specs.declared.error.GrowError.TheVariants as grow
use Rattle.tl_tree.specs.declared.error.ReadError.{ReadError}
use Rattle.tl_tree.specs.declared.error.ReadError.TheVariants as read

abbrev pub read_error : GrowError → ReadError
read_error grow.OutOfMemory = read.OutOfMemory
read_error grow.TooLarge = read.TooLarge
