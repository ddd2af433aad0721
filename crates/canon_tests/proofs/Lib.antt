mod SettledRows
