mod VertexCodes
