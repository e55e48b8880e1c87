-- `text_classes::all_of` meets its contract. The loop's invariant: all octets are in the class exactly when the remaining ones are.
use Rattle.std.proofs.Common.{◌≡◌, drop}
use Rattle.spec_octets.specs.Lists.{all}
use Rattle.text_classes.specs.Classes.{in_class}
use Rattle.text_classes.proofs.all_of.Given as goal

abbrev pub invariant-loop-b : goal.invariant-loop-b
invariant-loop-b l = all (in_class l.class) l.s ≡ all (in_class l.class) (drop l.b-index l.s)
