-- The fields of a SEQUENCE as a tuple: three to twelve fields in sequence.
use Rattle.der.specs.Tuples.{nested_three, nested_four, nested_five, nested_six}
use Rattle.der.specs.Tuples.{halves_seven, halves_eight, halves_nine, halves_ten, halves_eleven}
use Rattle.der.specs.Tuples.{halves_twelve}
use Rattle.der_asn1.specs.Meaning.{FieldSpec, seen, two_fields}

abbrev pub three_fields : {A B C : Type 0}
    → FieldSpec A → FieldSpec B
    → FieldSpec C
    → FieldSpec (A × B × C)
three_fields one two three = seen nested_three (two_fields one (two_fields two three))

abbrev pub four_fields : {A B C D : Type 0}
    → FieldSpec A → FieldSpec B
    → FieldSpec C → FieldSpec D
    → FieldSpec (A × B × C × D)
four_fields one two three four =
    seen nested_four (two_fields one (two_fields two (two_fields three four)))

abbrev pub five_fields : {A B C D E : Type 0}
    → FieldSpec A → FieldSpec B → FieldSpec C
    → FieldSpec D → FieldSpec E
    → FieldSpec (A × B × C × D × E)
five_fields one two three four five =
    seen nested_five (two_fields one (two_fields two (two_fields three (two_fields four five))))

abbrev pub six_fields : {A B C D E F : Type 0}
    → FieldSpec A → FieldSpec B → FieldSpec C
    → FieldSpec D → FieldSpec E → FieldSpec F
    → FieldSpec (A × B × C × D × E × F)
six_fields one two three four five six =
    seen nested_six
    (two_fields one (two_fields two (two_fields three (two_fields four (two_fields five six)))))

abbrev pub seven_fields : {A B C D E F G : Type 0}
    → FieldSpec A → FieldSpec B → FieldSpec C → FieldSpec D
    → FieldSpec E → FieldSpec F → FieldSpec G
    → FieldSpec (A × B × C × D × E × F × G)
seven_fields one two three four five six seven =
    seen halves_seven (two_fields (four_fields one two three four) (three_fields five six seven))

abbrev pub eight_fields : {A B C D E F G H : Type 0}
    → FieldSpec A → FieldSpec B → FieldSpec C → FieldSpec D
    → FieldSpec E → FieldSpec F → FieldSpec G → FieldSpec H
    → FieldSpec (A × B × C × D × E × F × G × H)
eight_fields one two three four five six seven eight =
    seen halves_eight (two_fields (four_fields one two three four)
    (four_fields five six seven eight))

abbrev pub nine_fields : {A B C D E F G H I : Type 0}
    → FieldSpec A → FieldSpec B → FieldSpec C → FieldSpec D → FieldSpec E
    → FieldSpec F → FieldSpec G → FieldSpec H → FieldSpec I
    → FieldSpec (A × B × C × D × E × F × G × H × I)
nine_fields one two three four five six seven eight nine =
    seen halves_nine (two_fields (five_fields one two three four five)
    (four_fields six seven eight nine))

abbrev pub ten_fields : {A B C D E F G H I J : Type 0}
    → FieldSpec A → FieldSpec B → FieldSpec C → FieldSpec D → FieldSpec E
    → FieldSpec F → FieldSpec G → FieldSpec H → FieldSpec I → FieldSpec J
    → FieldSpec (A × B × C × D × E × F × G × H × I × J)
ten_fields one two three four five six seven eight nine ten =
    seen halves_ten (two_fields (five_fields one two three four five)
    (five_fields six seven eight nine ten))

abbrev pub eleven_fields : {A B C D E F G H I J K : Type 0}
    → FieldSpec A → FieldSpec B → FieldSpec C → FieldSpec D → FieldSpec E → FieldSpec F
    → FieldSpec G → FieldSpec H → FieldSpec I → FieldSpec J → FieldSpec K
    → FieldSpec (A × B × C × D × E × F × G × H × I × J × K)
eleven_fields one two three four five six seven eight nine ten eleven =
    seen halves_eleven (two_fields (six_fields one two three four five six)
    (five_fields seven eight nine ten eleven))

abbrev pub twelve_fields : {A B C D E F G H I J K L : Type 0}
    → FieldSpec A → FieldSpec B → FieldSpec C → FieldSpec D → FieldSpec E → FieldSpec F
    → FieldSpec G → FieldSpec H → FieldSpec I → FieldSpec J → FieldSpec K → FieldSpec L
    → FieldSpec (A × B × C × D × E × F × G × H × I × J × K × L)
twelve_fields one two three four five six seven eight nine ten eleven twelve =
    seen halves_twelve (two_fields (six_fields one two three four five six)
    (six_fields seven eight nine ten eleven twelve))
