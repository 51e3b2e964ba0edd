-- The named character references (13.5): the tables of the code are those of the definitions.
use Rattle.std.specs.Prelude.{ℕ, ◌==◌, List, [], if◌then◌else◌}
use Rattle.tl_names.specs.declared.references.TheConstants.{UPPER_A, UPPER_B, UPPER_C, UPPER_D, UPPER_E, UPPER_F, UPPER_G, UPPER_H, UPPER_I, UPPER_J, UPPER_K, UPPER_L, UPPER_M, UPPER_N, UPPER_O, UPPER_P, UPPER_Q, UPPER_R, UPPER_S, UPPER_T, UPPER_U, UPPER_V, UPPER_W, UPPER_X, UPPER_Y, UPPER_Z, LOWER_A, LOWER_B, LOWER_C, LOWER_D, LOWER_E, LOWER_F, LOWER_G, LOWER_H, LOWER_I, LOWER_J, LOWER_K, LOWER_L, LOWER_M, LOWER_N, LOWER_O, LOWER_P, LOWER_Q, LOWER_R, LOWER_S, LOWER_T, LOWER_U, LOWER_V, LOWER_W, LOWER_X, LOWER_Y, LOWER_Z}

-- the rows of the names that begin with a letter
abbrev pub table_of : ℕ → List ℕ
table_of b =
    if b == 65 then UPPER_A
    else if b == 66 then UPPER_B
    else if b == 67 then UPPER_C
    else if b == 68 then UPPER_D
    else if b == 69 then UPPER_E
    else if b == 70 then UPPER_F
    else if b == 71 then UPPER_G
    else if b == 72 then UPPER_H
    else if b == 73 then UPPER_I
    else if b == 74 then UPPER_J
    else if b == 75 then UPPER_K
    else if b == 76 then UPPER_L
    else if b == 77 then UPPER_M
    else if b == 78 then UPPER_N
    else if b == 79 then UPPER_O
    else if b == 80 then UPPER_P
    else if b == 81 then UPPER_Q
    else if b == 82 then UPPER_R
    else if b == 83 then UPPER_S
    else if b == 84 then UPPER_T
    else if b == 85 then UPPER_U
    else if b == 86 then UPPER_V
    else if b == 87 then UPPER_W
    else if b == 88 then UPPER_X
    else if b == 89 then UPPER_Y
    else if b == 90 then UPPER_Z
    else if b == 97 then LOWER_A
    else if b == 98 then LOWER_B
    else if b == 99 then LOWER_C
    else if b == 100 then LOWER_D
    else if b == 101 then LOWER_E
    else if b == 102 then LOWER_F
    else if b == 103 then LOWER_G
    else if b == 104 then LOWER_H
    else if b == 105 then LOWER_I
    else if b == 106 then LOWER_J
    else if b == 107 then LOWER_K
    else if b == 108 then LOWER_L
    else if b == 109 then LOWER_M
    else if b == 110 then LOWER_N
    else if b == 111 then LOWER_O
    else if b == 112 then LOWER_P
    else if b == 113 then LOWER_Q
    else if b == 114 then LOWER_R
    else if b == 115 then LOWER_S
    else if b == 116 then LOWER_T
    else if b == 117 then LOWER_U
    else if b == 118 then LOWER_V
    else if b == 119 then LOWER_W
    else if b == 120 then LOWER_X
    else if b == 121 then LOWER_Y
    else if b == 122 then LOWER_Z
    else []
