-- Each call is answered as its case says. Assumes nothing.
use mathlib.Core.Path.{refl}
use Rattle.bits.specs.Bits.{bit}
use Rattle.bits.specs.Put.{number, bytes_of, put_bit, put_field, put_fields, packed}
use Rattle.filling.specs.Buffer.{written}
use Rattle.writing.specs.Writing.{add_verdict, add_answer, add_buffer}
use Rattle.writing.specs.Cases.{cases, AllRight}

pub right : AllRight cases
unfolding add_answer add_buffer add_verdict written packed put_fields put_field bytes_of number put_bit bit
right =
    (record { answer = refl; left = refl }, (record { answer = refl; left = refl }, (record { answer = refl; left = refl }, (record { answer = refl; left = refl }, (record { answer = refl; left = refl }, (record { answer = refl; left = refl }, (record { answer = refl; left = refl }, (record { answer = refl; left = refl }, (record { answer = refl; left = refl }, tt)))))))))
