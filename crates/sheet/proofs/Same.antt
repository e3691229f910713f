-- Tables with the same rows are the same.
use Rattle.std.proofs.Common.{◌≡◌, ◌≤◌, vec_len, vec_capacity}
use native.Mathlib.Bridge.{le_prop}
use Rattle.sheet.specs.declared.table.Table.{Table}

pub same_table : (t : Table) (a : vec_len t.rows ≤ 64) (b : 64 ≤ vec_capacity t.rows) → ◌≡◌ {A = Table} t (record { rows = t.rows; short = a; roomy = b })
same_table t a b = λ i. record { rows = t.rows; short = le_prop t.short a i; roomy = le_prop t.roomy b i }
