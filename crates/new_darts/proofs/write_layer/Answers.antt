-- `new_darts::write_layer` meets its contract, by that of `write`.
use Rattle.new_darts.proofs.write_layer.Goals as goal

pub write-requires : goal.write-requires
write-requires c = record { made = _; is = c.requires.1 }

pub returns : goal.returns
returns c = λ x W. c.write.ensures _ W
