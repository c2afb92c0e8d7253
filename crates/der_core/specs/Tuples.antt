-- Tuples of fields as pairs: three to six values as nested pairs, and seven to twelve as two shorter
-- tuples, of which the first has as many values as the second, or one more.

abbrev pub nested_three : {A B C : Type 0} → A × B × C → A × (B × C)
nested_three v = (v.0, (v.1, v.2))

abbrev pub nested_four : {A B C D : Type 0} → A × B × C × D → A × (B × (C × D))
nested_four v = (v.0, (v.1, (v.2, v.3)))

abbrev pub nested_five : {A B C D E : Type 0} → A × B × C × D × E → A × (B × (C × (D × E)))
nested_five v = (v.0, (v.1, (v.2, (v.3, v.4))))

abbrev pub nested_six : {A B C D E F : Type 0}
    → A × B × C × D × E × F
    → A × (B × (C × (D × (E × F))))
nested_six v = (v.0, (v.1, (v.2, (v.3, (v.4, v.5)))))

abbrev pub halves_seven : {A B C D E F G : Type 0}
    → A × B × C × D × E × F × G
    → (A × B × C × D) × (E × F × G)
halves_seven v = ((v.0, v.1, v.2, v.3), (v.4, v.5, v.6))

abbrev pub halves_eight : {A B C D E F G H : Type 0}
    → A × B × C × D × E × F × G × H
    → (A × B × C × D) × (E × F × G × H)
halves_eight v = ((v.0, v.1, v.2, v.3), (v.4, v.5, v.6, v.7))

abbrev pub halves_nine : {A B C D E F G H I : Type 0}
    → A × B × C × D × E × F × G × H × I
    → (A × B × C × D × E) × (F × G × H × I)
halves_nine v = ((v.0, v.1, v.2, v.3, v.4), (v.5, v.6, v.7, v.8))

abbrev pub halves_ten : {A B C D E F G H I J : Type 0}
    → A × B × C × D × E × F × G × H × I × J
    → (A × B × C × D × E) × (F × G × H × I × J)
halves_ten v = ((v.0, v.1, v.2, v.3, v.4), (v.5, v.6, v.7, v.8, v.9))

abbrev pub halves_eleven : {A B C D E F G H I J K : Type 0}
    → A × B × C × D × E × F × G × H × I × J × K
    → (A × B × C × D × E × F) × (G × H × I × J × K)
halves_eleven v = ((v.0, v.1, v.2, v.3, v.4, v.5), (v.6, v.7, v.8, v.9, v.10))

abbrev pub halves_twelve : {A B C D E F G H I J K L : Type 0}
    → A × B × C × D × E × F × G × H × I × J × K × L
    → (A × B × C × D × E × F) × (G × H × I × J × K × L)
halves_twelve v = ((v.0, v.1, v.2, v.3, v.4, v.5), (v.6, v.7, v.8, v.9, v.10, v.11))
