-- `texts::put_decimal` meets its contract. The measure is the number.
use Rattle.texts.proofs.+put_decimal.Given as goal

abbrev pub decreases-put_decimal : goal.decreases-put_decimal
decreases-put_decimal l = l.v
