-- `octets::put_number` meets its contract: the bytes of n / 256, then the last one. Assumes nothing.
use Rattle.octets.proofs.+put_number.Given as goal

abbrev pub decreases-put_number : goal.decreases-put_number
decreases-put_number l = l.width
