mod EmptyProgram
